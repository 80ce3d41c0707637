-- What the queue is, and the words and the column that it stands in; in Climb how the code comes to them.
pub mod Queue
pub mod Words
pub mod Column
pub mod Climb
