-- The worked examples of verdicts, computed.
use mathlib.Core.Path.{refl}
use Rattle.bisimulation.specs.Lists.{list_of, same_list, related_lists, lists}
use Rattle.worked_verdicts.specs.Worked.{WorkedVerdicts}

pub worked_verdicts : WorkedVerdicts
unfolding list_of same_list related_lists lists
worked_verdicts = record {
  a_b = refl;
  a_b_without = refl;
  c_d = refl;
  c_d_with = refl;
  e_f = refl;
  g_identity = refl;
  g_exchange = refl;
  g_union = refl;
}
