pub mod EntryType
