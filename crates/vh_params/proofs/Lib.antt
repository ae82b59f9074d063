mod SortedOnce
pub mod Tables
pub mod Decimals
pub mod TextValues
pub mod Texts
pub mod NodeLists
pub mod Units
