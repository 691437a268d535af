-- `Replies`: laws of replies, of what is driven and of what a refusal leaves. `Strict`: of the strict setting.
pub mod Replies
pub mod Strict
