-- Lemmas on the definitions of this crate.
mod PartLemmas
mod NumberLemmas
mod NameLemmas
mod RefusalLemmas
mod CellLemmas
mod RowLemmas
mod ReplyLemmas
