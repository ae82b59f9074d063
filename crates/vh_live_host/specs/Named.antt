-- The words that were read.
use Rattle.std.specs.Prelude.{Option, Some, None}
use Rattle.vh_live_host.specs.declared.words.Live.{Live as Read}
use Rattle.vh_live_host.specs.Words.{Live}

abbrev pub live_of : Read → Live
live_of files = record { session = files.session.now; input = files.input.now; output = files.output.now; journal = files.journal.now; block = files.block }

abbrev pub asked : Option Read → Option Live
asked None = None
asked (Some read) = Some (live_of read)
