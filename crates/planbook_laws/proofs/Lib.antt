pub mod ChainRecords
