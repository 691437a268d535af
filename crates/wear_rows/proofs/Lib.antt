-- `Laws`: bars, and parts of lines. `Listed`: the sectors' lines one after the other.
pub mod Laws
pub mod Listed
