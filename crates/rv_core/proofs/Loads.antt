-- What a load takes from the older stores and the cache, and by which path, is what the definition gives it.
pub mod Bytes
pub mod BytesAfter
pub mod Effect
pub mod Message
pub mod Path
pub mod Seen
