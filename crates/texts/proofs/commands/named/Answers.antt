-- `texts::commands::named` meets its contract: the table has the names in the order of the tests.
-- Assumes nothing.
use Rattle.std.proofs.Common.{◌≡◌, Bor, List, ℕ, Some, map, refl, sym, ap, ◌∙◌, rules, tests, eqb}
use Rattle.std.specs.List.{find}
use Rattle.std.specs.Option.{option_map}
use Rattle.std.proofs.lemmas.Bool.Decides.{same_from_decides, Decides-eqb}
use Rattle.std.proofs.lemmas.Slice.Eq.{slice_eq-Decides}
use Rattle.std.proofs.lemmas.Iterator.{YieldsList-from_slice}
use Rattle.std.proofs.lemmas.Iterator.Search.{find_from_yields_List}
use Rattle.sudoku.specs.Tests.{pick, both}
use Rattle.texts.specs.declared.Verb.{Verb}
use Rattle.texts.specs.declared.commands.TheConstants.{NAMES}
use Rattle.texts.specs.Commands.{is_same, verb_of_play, verb_of_rest, verb_of_letter, found}
use Rattle.texts.proofs.Names.{is_same-Decides}
use Rattle.texts.proofs.Table.{numbered, found_first, first-append, mapped, mapped_twice}
use Rattle.texts.proofs.commands.named.Goals as goal

abbrev Entry : Type 0
Entry = Bor (List ℕ) × Verb

module _ {E : Type 0} (text : E → List ℕ) (verb : E → Verb) (name : List ℕ) (es : List E) where
  in_table : map text es ≡ map (λ e. e.0.now) NAMES → map verb es ≡ map (λ e. e.1) NAMES → option_map verb (find (λ e. is_same name (text e)) es) ≡ found (pick (eqb (verb_of_play name) 0) (verb_of_rest name) (verb_of_play name))
  unfolding verb_of_play verb_of_rest verb_of_letter found pick numbered both
  in_table p q = found_first text verb name es _ (sym (ap (map (is_same name)) p)) (sym (ap (map Some) q)) ∙ ap found (first-append _ _ refl)

pub returns : goal.returns
returns c =
    let name = c.args.name.now in
    let all = c.iter.result.rest.now in
    let is =
    find_from_yields_List (λ e. is_same name e.0.now) _ _ c.find-known.result c.find-known.ensures.ran (YieldsList-from_slice all refl)
    (λ x b q k.
    (search (rules, tests), same_from_decides _ _ (slice_eq-Decides Decides-eqb _ _ _ (search (rules, tests))) (is_same-Decides name x.now.0.now))) in
    let table = c.iter.ensures.rest in
    let named = ap (option_map (λ e. e.1)) is ∙ in_table (λ (e : Entry). e.0.now) (λ e. e.1) name all (ap (map (λ e. e.0.now)) table) (ap (map (λ e. e.1)) table) in
    mapped (λ x. x.now.1) _ _ _ (λ x b k. search (rules, tests)) c.map.ensures.cases
    ∙ mapped_twice (λ (x : Bor Entry). x.now) (λ e. e.1) c.find-known.result
    ∙ named
