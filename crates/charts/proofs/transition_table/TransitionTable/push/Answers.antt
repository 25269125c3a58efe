use Rattle.std.proofs.Common.{◌≡◌, ◌^◌, ◌<◌, ◌≤◌, ◌∷◌, [], ◌++◌, map, sym, ap, ◌∙◌, subst, arith}
use Rattle.std.proofs.lemmas.List.{length-map, map-append}
use Rattle.names.specs.Laws.{name_is_packed}
use Rattle.names.specs.Meanings.{number_of}
use Rattle.names.specs.Numbers.{is_packed}
use Rattle.places.specs.Sets.{size}
use Rattle.nets.specs.Meaning.{least_output}
use Rattle.charts.specs.Naming.{has_name}
use Rattle.charts.specs.Rows.{row_view}
use Rattle.charts.specs.TableLaws.{entries_named}
use Rattle.charts.specs.Tables.{transition_entry, listed_transitions, ShortLabels, Takes, Gives}
use Rattle.charts.specs.TransitionTables.{transitions_of}
use Rattle.charts.specs.Views.{TransitionEntry}
use Rattle.charts.specs.declared.transition_table.Transition.{Transition}
use Rattle.charts.proofs.Found.{valid_more}
use Rattle.charts.proofs.Listed.{each_more}
use Rattle.charts.proofs.transition_table.TransitionTable.push.Goals as goal

pub push-requires : goal.push-requires
push-requires c =
    let self = c.args.self.now in
    let new = ap (λ k. has_name k (map (λ (x : Transition). x.name) self.transitions.entries.items)) c.number.ensures ∙ ap (has_name (number_of c.args.opened.name)) (sym (entries_named self)) ∙ c.requires.new in
    (omega arith, (omega (arith, c.requires.room, length-map self.transitions.entries.items transition_entry), (ap is_packed c.number.ensures ∙ name_is_packed c.args.opened.name, new)))

pub invariant_of-self : goal.invariant_of-self
invariant_of-self c =
    let self = c.args.self.now in
    let ts = transitions_of self in
    let e : TransitionEntry = record { name = c.number.result; label = c.number-2.result; row = row_view c.args.opened.row } in
    let more : listed_transitions c.push.new.self.entries.items ≡ ts ++ e ∷ [] = ap listed_transitions c.push.ensures ∙ map-append transition_entry self.transitions.entries.items _ in
    record {
      labelled = valid_more (λ (x : TransitionEntry). x.label) ts e (listed_transitions c.push.new.self.entries.items) more self.labelled (ap is_packed c.number-2.ensures ∙ name_is_packed c.args.opened.label);
      short = subst ShortLabels (sym more) (each_more (λ (x : TransitionEntry). x.label < 2 ^ 64) ts e self.short c.number-2.type_inv);
      takes = subst Takes (sym more) (each_more (λ (x : TransitionEntry). 1 ≤ size x.row.inputs) ts e self.takes c.requires.takes);
      gives = subst Gives (sym more) (each_more (λ (x : TransitionEntry). least_output ≤ size x.row.outputs) ts e self.gives c.requires.gives);
    }
