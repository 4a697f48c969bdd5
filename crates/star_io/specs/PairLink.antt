-- A link in memory, as contracts see it.
use Rattle.star_io.specs.Link.{ReadingSide, WritingSide}
use Rattle.star_io.specs.PieceSource.{PieceState, source_side}
use Rattle.star_io.specs.ListSink.{ListState, sink_side}

-- its source and its sink
pub record PairState : Type 0 where
  pub source : PieceState
  pub sink : ListState

-- what it tells as a source
abbrev pub reading_of : PairState → ReadingSide
reading_of s = source_side s.source

-- what it tells as a sink
abbrev pub writing_of : PairState → WritingSide
writing_of s = sink_side s.sink
