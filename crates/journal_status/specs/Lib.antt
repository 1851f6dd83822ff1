pub mod JournalEnds
