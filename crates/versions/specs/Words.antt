-- What lent words link.
use Rattle.versions.specs.declared.words.Words.{Words}
use Rattle.versions.specs.Chain.{Links, links}

abbrev pub lent_by : Words → Links
lent_by w = links w.heads.now w.next.now w.number.now w.value.now
