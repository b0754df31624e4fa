-- What proofs and private contracts of this crate use.
pub mod MemberTest
pub mod UidTexts
