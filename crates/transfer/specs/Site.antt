-- The program of an address whose rules are met. Definitions only, and none that a reader of the public promise has to believe.
use Rattle.program.specs.Program.{Program}
use Rattle.program.specs.Tables.{program_in}
use Rattle.transfer.specs.declared.site.Site.{Site}

abbrev pub program_of : Site → Program
program_of s = program_in s.sets.now.tables.now
