-- The walk as it is printed: the end of an item is written with what stands behind it.
use Rattle.std.proofs.Common.{◌≡◌, ℕ, Option, Some, None, List, [], ◌∷◌, ◌++◌, refl, ap, sym, ◌∙◌, append_assoc}
use Rattle.cedar_names.specs.CanonicalText.{canonical_text, spaces}
use Rattle.schema_build_types.specs.Content.{SchemaContent}
use Rattle.schema_build_text.specs.Items.{item_text, item_front, item_end, base_in, break_between, opening}
use Rattle.schema_build_text.specs.Items.{break_text, end_text, entity_declaration, action_declaration}
use Rattle.schema_build_text.specs.Readings.{entity_reading, action_reading, schema_reading}
use Rattle.schema_build_text.specs.Walk.{ItemContent, entity_type, action, namespace_of, walk}
use Rattle.schema_build_text.proofs.Walked.{Name, text_behind, printed}

-- the text of items behind one of this namespace that has not its end yet
abbrev pub open_behind : Option Name → List ItemContent → List ℕ
open_behind before [] = end_text before
open_behind before (z ∷ zs) =
    break_text before (namespace_of z)
    ++ (item_front (base_in (namespace_of z)) z ++ open_behind (Some (namespace_of z)) zs)

ended : (base : ℕ) (z : ItemContent) → item_front base z ++ item_end ≡ item_text base z
ended base (entity_type e) =
    append_assoc (spaces base) (entity_declaration base (entity_reading e)) item_end
ended base (action a) = append_assoc (spaces base) (action_declaration base (action_reading a)) item_end

more_ended : (base : ℕ) (z : ItemContent) (rest : List ℕ)
    → item_front base z ++ (item_end ++ rest) ≡ item_text base z ++ rest
more_ended base z rest =
    sym (append_assoc (item_front base z) item_end rest) ∙ ap (λ t. t ++ rest) (ended base z)

opened_behind : (m : Name) (zs : List ItemContent) → open_behind (Some m) zs ≡ item_end ++ text_behind (Some m) zs
opened_behind m [] = refl
opened_behind m (z ∷ zs) =
    let n = namespace_of z in
    let between = break_between m n in
    ap (λ t. (item_end ++ between) ++ (item_front (base_in n) z ++ t)) (opened_behind n zs)
    ∙ ap (λ t. item_end ++ (between ++ t)) (more_ended (base_in n) z (text_behind (Some n) zs))

all_opened : (zs : List ItemContent) → open_behind None zs ≡ text_behind None zs
all_opened [] = refl
all_opened (z ∷ zs) =
    let n = namespace_of z in
    ap (λ t. opening n ++ (item_front (base_in n) z ++ t)) (opened_behind n zs)
    ∙ ap (λ t. opening n ++ t) (more_ended (base_in n) z (text_behind (Some n) zs))

-- what is printed is the canonical text
pub opened : (c : SchemaContent) → open_behind None (walk c) ≡ canonical_text (schema_reading c)
opened c = all_opened (walk c) ∙ printed c
