-- What only proofs and private contracts use.
pub mod Condition
pub mod Mention
pub mod Signatures
pub mod Spine
pub mod View
