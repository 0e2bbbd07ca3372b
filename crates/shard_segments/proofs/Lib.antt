pub mod ListLemmas
pub mod ScanLemmas
