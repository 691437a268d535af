-- `Single`: one sample; `Within`: one within a frame; `Handed`: from a fall to a rise, none held; `Outgrown`: one that does not fit; `Reach`: every frame; `Out`: held samples taken out; `Cut`: a run, cut; `Rise`: what a rise leaves,
-- whatever the answer; `Cases`: the page's cases.
pub mod Single
pub mod Within
pub mod Handed
pub mod Outgrown
pub mod Reach
pub mod Out
pub mod Cut
pub mod Rise
pub mod Cases
