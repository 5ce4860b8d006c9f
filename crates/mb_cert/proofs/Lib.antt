pub mod Firsts
pub mod Checked
pub mod Written
