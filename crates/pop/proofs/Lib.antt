pub mod LastCodePoint
