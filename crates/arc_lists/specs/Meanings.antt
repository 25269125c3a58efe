-- What an arc list of the code means. Assumes nothing.
use Rattle.nets.specs.Meaning.{Meaning, Limits}
use Rattle.arc_lists.specs.Lists.{arcs_meaning}
use Rattle.arc_lists.specs.Limits.{arcs_limits}
use Rattle.arc_lists.specs.declared.list.ArcList.{ArcList}

-- the net that it reads in place
abbrev pub arc_list_meaning : ArcList → Meaning
arc_list_meaning s = arcs_meaning s.places s.labels.now s.arcs.now

-- it keeps the limits
abbrev pub arc_list_limits : (s : ArcList) → Limits (arc_list_meaning s)
arc_list_limits s = arcs_limits s.places s.labels.now s.arcs.now s.passed s.short
