-- Lemmas on the definitions of this crate.
mod LineLemmas
mod SpacedLemmas
mod TextLemmas
mod ContentLemmas
mod KeywordLemmas
mod LimitLemmas
mod LimitTests
mod QuotedLemmas
mod ReadBackLemmas
mod SpellingLemmas
mod TokenLemmas
mod WordLemmas
mod WrittenLemmas
