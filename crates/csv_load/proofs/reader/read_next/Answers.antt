use Rattle.csv.specs.Records.{fields_of}
use Rattle.csv_load.proofs.ReaderLemmas.{found_more, found_none}
use Rattle.csv_load.proofs.reader.read_next.Goals as goal

pub returns-clause-between : goal.returns-clause-between
returns-clause-between c = λ t.
    (found_more c.args.reader.now c.read_byte_record.new.self (fields_of c.read_byte_record.new.row) c.requires
    (rw t at (c.in-Ok.ensures.reads c.requires.trim c.requires.ready)) (c.in-Ok.ensures.reads_on t)).0

pub returns-clause-found : goal.returns-clause-found
returns-clause-found c = λ t.
    (found_more c.args.reader.now c.read_byte_record.new.self (fields_of c.read_byte_record.new.row) c.requires
    (rw t at (c.in-Ok.ensures.reads c.requires.trim c.requires.ready)) (c.in-Ok.ensures.reads_on t)).1

pub returns-clause-ended : goal.returns-clause-ended
returns-clause-ended c = λ t.
    found_none c.args.reader.now c.read_byte_record.new.self (fields_of c.read_byte_record.new.row) c.requires
    (rw t at (c.in-Ok.ensures.reads c.requires.trim c.requires.ready))
