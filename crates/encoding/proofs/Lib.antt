pub mod RowLengths
pub mod Ranged
pub mod FieldLists
pub mod Judged
pub mod Behind
pub mod Written
pub mod ReadAgain
