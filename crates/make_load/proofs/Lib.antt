-- Lemmas on the text of replies, and on the length of a made script.
pub mod ReplyLemmas
pub mod LengthLemmas
pub mod RunLemmas
