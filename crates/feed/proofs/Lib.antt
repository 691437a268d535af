-- `Turns`: one turn. `Feeds`: turns one after the other, and the input's end. `Script`: a whole script. `Blocks`: a caller's loops over blocks.
pub mod Turns
pub mod Feeds
pub mod Script
pub mod Blocks
