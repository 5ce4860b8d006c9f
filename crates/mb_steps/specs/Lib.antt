pub mod NothingUndone
pub mod OwnLists
pub mod Arises
