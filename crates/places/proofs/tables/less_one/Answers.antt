use Rattle.std.proofs.Common.{◌+◌, ◌-◌, ◌<◌, length, get_or, sym, ap, ◌∙◌, add-zero, arith}
use Rattle.std.proofs.lemmas.List.{length-set}
use Rattle.std.proofs.lemmas.Bool.{lt-ltb, le-ltb}
use Rattle.places.specs.Sets.{size}
use Rattle.places.specs.Tables.{counted}
use Rattle.places.proofs.Steps.{less_one, none_taken, in_table}
use Rattle.places.specs.Laws.{size_less}
use Rattle.places.proofs.tables.less_one.Goals as goal

pub bounds-counts-p : goal.bounds-counts-p
bounds-counts-p c = omega (arith, c.told-counts, in_table c.args.counts.now c.args.p (λ e. c.if-entry-eq0.false (c.entry.ensures ∙ e)))

pub bounds-counts-p-2 : goal.bounds-counts-p-2
bounds-counts-p-2 c = omega (arith, c.told-counts, in_table c.args.counts.now c.args.p (λ e. c.if-entry-eq0.false (c.entry.ensures ∙ e)))

pub returns-then-entry-eq0 : goal.returns-then-entry-eq0
returns-then-entry-eq0 c = record {
  long = c.told-counts;
  found = sym (le-ltb 0 (counted c.args.counts.now c.args.p) (omega (arith, c.entry.ensures, c.if-entry-eq0.true)));
  total = add-zero (size (counted c.args.counts.now));
  after = none_taken (counted c.args.counts.now) c.args.p (sym c.entry.ensures ∙ c.if-entry-eq0.true);
}

pub returns : goal.returns
returns c =
    let within : c.args.p < length c.args.counts.now = in_table c.args.counts.now c.args.p (λ e. c.if-entry-eq0.false (c.entry.ensures ∙ e)) in
    let some : 0 < counted c.args.counts.now c.args.p = omega (arith, c.entry.ensures, c.if-entry-eq0.false) in
    let after = less_one c.args.counts.now c.args.p within in
    record {
      long = length-set c.args.counts.now c.args.p (get_or c.args.counts.now c.args.p 0 - 1) ∙ c.told-counts;
      found = sym (lt-ltb 0 (counted c.args.counts.now c.args.p) some);
      total = ap (λ m. size m + 1) after ∙ size_less (counted c.args.counts.now) c.args.p (omega (arith, within, c.told-counts)) some;
      after = after;
    }
