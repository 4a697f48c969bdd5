-- A link over one of the system's TCP connections, as contracts see it.
use Rattle.std.specs.Prelude.{None}
use Rattle.star_io.specs.Link.{ReadingSide, WritingSide}
use Rattle.star_io.specs.declared.tcp_link.TcpLink.{TcpLink}

-- what it tells as a source: the bytes to come are not told
abbrev pub tcp_reading : TcpLink → ReadingSide
tcp_reading link =
    record { left = None; faults = link.read_faults; failed = link.read_failed; ended = link.ended }

-- what it tells as a sink: the bytes taken are not told
abbrev pub tcp_writing : TcpLink → WritingSide
tcp_writing link = record { taken = None; faults = link.write_faults; failed = link.write_failed }
