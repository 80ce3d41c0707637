-- The promises: Promises has those on search, judge and read-out as sentences, Stalls those on a search that stalls, Permits what is said of every contract.
pub mod Promises
pub mod Permits
pub mod Stalls
