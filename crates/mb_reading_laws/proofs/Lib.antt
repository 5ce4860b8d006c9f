-- What the readers of the formats yield: numbers of their bytes (`Yields`), parts (`ReadParts`), the sixteen kinds (`ReadKinds`). So a message
-- that is read has the values of the grammar (`ReadFits`).
pub mod Yields
pub mod ReadParts
pub mod ReadKinds
pub mod ReadFits
