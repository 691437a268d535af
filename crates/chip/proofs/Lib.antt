-- `Ready`: what the refusals have shown is what the commands ask for. `Sorts`: one clause a command, and what holds of every accepted frame.
-- `Cases`: what holds of an accepted frame and of a refused one holds of every frame.
pub mod Ready
pub mod Sorts
pub mod Cases
