-- Lemmas on the definitions of this crate.
mod BlockLemmas
mod ClippedLemmas
mod ComingLemmas
mod LineLemmas
mod ReachLemmas
mod SoughtLemmas
mod OpenLemmas
mod ShortLemmas
mod StepLemmas
mod Utf8Lemmas
mod WholeLemmas
