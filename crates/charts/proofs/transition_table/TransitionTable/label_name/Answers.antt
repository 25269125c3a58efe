use Rattle.std.proofs.Common.{sym, refl, ap, ◌∙◌, subst}
use Rattle.std.proofs.lemmas.Simd.{map-map}
use Rattle.std.specs.List.{slice_get}
use Rattle.charts.specs.Naming.{AllNames}
use Rattle.charts.specs.Tables.{transition_entry}
use Rattle.charts.specs.Views.{TransitionEntry}
use Rattle.charts.specs.declared.transition_table.Transition.{Transition}
use Rattle.charts.proofs.Found.{name_at}
use Rattle.charts.proofs.transition_table.TransitionTable.label_name.Goals as goal

pub returns : goal.returns
returns c =
    let self = c.args.self.now in
    let items = self.transitions.entries.items in
    let labels = map-map (λ (e : TransitionEntry). e.label) transition_entry items in
    let at = c.in_ok-transition.ensures in
    name_at (λ (x : Transition). x.label) items c.args.t c.in_ok-transition.transition.now _ c.from_number.result at.3.0 (at.3.1 _) (subst AllNames labels self.labelled) refl c.from_number.ensures ∙
    ap (λ ns. slice_get ns c.args.t) (sym labels)
