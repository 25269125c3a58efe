use Rattle.std.proofs.Common.{◌==◌, [], ◌∙◌, sym, ap, option_map, unwrap_or, rules, tests}
use Rattle.std.proofs.lemmas.Iterator.Search.{find_from_yields_List}
use Rattle.lines.specs.Listing.{words_listed}
use Rattle.faults.specs.Faults.{word_at}
use Rattle.faults.proofs.Finding.{bytes_or, word_found}
use Rattle.faults.proofs.tokens.word_at.Goals as goal

pub returns : goal.returns
returns c =
    let found = find_from_yields_List (λ p. p.0 == c.args.column) c.find.new.self _ c.find.result c.find.ensures.ran (words_listed c.of.result) (λ x b q k. search (rules, tests)) in
    bytes_or c.find.result c.map_or.result c.map_or.ensures (λ e. search rules) (λ w e. search rules) ∙
    ap (λ o. unwrap_or (option_map (λ p. p.1) o) []) found ∙
    sym (word_found c.args.column _) ∙ ap (word_at c.args.column) c.of.ensures.words
