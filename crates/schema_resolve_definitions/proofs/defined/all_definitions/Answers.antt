use Rattle.std.proofs.Common.{◌≡◌, ◌∙◌, ◌||◌, ℕ, List, map, ap, sym}
use Rattle.std.proofs.lemmas.List.Folds.{list_any-append}
use Rattle.cedar_names.specs.Definitions.{Definitions, among, among_actions, same_name, AddsNames, AddsTypes}
use Rattle.schema_resolve_definitions.specs.Declarations.{declared}
use Rattle.schema_resolve_definitions.specs.Defined.{names_of_builtins, builtins, completed}
use Rattle.schema_resolve_definitions.specs.Tests.{tests_of}
use Rattle.schema_resolve_definitions.proofs.Actions.{types_alike}
use Rattle.schema_resolve_definitions.proofs.defined.all_definitions.Goals as goal

-- d0 defines what d declares, e the builtin types too, h the types of actions too
put_together : (d0 e h d : Definitions) (words : List (List ℕ)) (names : List (List (List ℕ)))
    → tests_of d0 ≡ tests_of d → names ≡ names_of_builtins (tests_of d0) words
    → AddsNames d0.commons e.commons names → e.entities ≡ d0.entities → e.actions ≡ d0.actions
    → h.commons ≡ e.commons → AddsTypes e.entities h.entities e.actions → h.actions ≡ e.actions
    → tests_of h ≡ tests_of (completed d words)
put_together d0 e h d words names same are ec ee ea hc he ha =
    let same_names : names ≡ names_of_builtins (tests_of d) words = are ∙ ap (λ t. names_of_builtins t words) same in
    λ k. record {
      is_common = λ n. (ap (λ l. among l n) hc ∙ ec n ∙ (λ j. (same j).is_common n || among (same_names j) n)
          ∙ sym (list_any-append (same_name n) d.commons (names_of_builtins (tests_of d) words))) k;
      is_entity = λ n. (he n ∙ (λ j. among (ee j) n || among (map (λ (a : List (List ℕ) × List ℕ). a.0) (ea j)) n)
          ∙ (λ j. (same j).is_entity n || types_alike d0.actions d.actions (λ a i. (same i).is_action a) n j)
          ∙ sym (list_any-append (same_name n) d.entities (map (λ (a : List (List ℕ) × List ℕ). a.0) d.actions))) k;
      is_action = λ a. (ap (λ l. among_actions l a) (ha ∙ ea) ∙ (λ j. (same j).is_action a)) k;
    }

pub returns : goal.returns
returns c =
    let t = c.in_ok-add_action_entity_types.ensures in
    let m = c.in_ok-mark_all_as_common_types.ensures in
    put_together c.in_ok-defs.defs c.mark_all_as_common_types.new.self c.add_action_entity_types.new.self
    (declared c.args.fragment.now) (builtins c.args.table.now) _
    c.in_ok-defs.ensures c.in_ok-names.ensures m.commons m.entities m.actions t.commons t.entities t.actions
