mod ListLemmas
mod BoardLemmas
