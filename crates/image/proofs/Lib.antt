-- Tests of a token's kind, and of an amount; the tracked keys.
pub mod KindTests
pub mod AmountTests
pub mod KeyChunks
