-- A source over one of std's readers and a sink over one of its writers, as contracts see them.
use Rattle.std.specs.Prelude.{ℕ, Bool}
use Rattle.star_io.specs.declared.std_streams.StdSource.{StdSource}
use Rattle.star_io.specs.declared.std_streams.StdSink.{StdSink}

module _ {R : Type 0} where
  -- the reader that the source stands over
  abbrev pub reader_of : StdSource R → R
  reader_of source = source.reader

  -- how many of its reads failed
  abbrev pub failed_reads : StdSource R → ℕ
  failed_reads source = source.faults

  -- whether the last of its reads failed
  abbrev pub last_read_failed : StdSource R → Bool
  last_read_failed source = source.failed

  -- whether a read answered `Ok(0)`
  abbrev pub has_ended : StdSource R → Bool
  has_ended source = source.ended

module _ {W : Type 0} where
  -- the writer that the sink stands over
  abbrev pub writer_of : StdSink W → W
  writer_of sink = sink.writer

  -- how many of its writes failed
  abbrev pub failed_writes : StdSink W → ℕ
  failed_writes sink = sink.faults

  -- whether the last of its writes failed
  abbrev pub last_write_failed : StdSink W → Bool
  last_write_failed sink = sink.failed
