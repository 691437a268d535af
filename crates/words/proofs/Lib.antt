-- `Same`: when two texts are the same. `Wishes`: the cases of `wish_of`.
pub mod Same
pub mod Wishes
