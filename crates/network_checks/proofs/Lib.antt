mod NameTables
mod Order
mod Refusals
mod ArcRefusals
mod Conditions
mod PathLists
