use Rattle.std.proofs.Common.{◌≡◌, [], ◌∷◌, ◌++◌, refl, ap, ◌∙◌}
use Rattle.cedar_names.proofs.Members.{by_bytes, four_rise}
use Rattle.cedar_names.proofs.extension_table.ExtensionTable.all_available.Goals as goal

pub from_sorted_vec-requires : goal.from_sorted_vec-requires
from_sorted_vec-requires c =
    let first : c.push.new.self.items ≡ c.in_ok-word.field-0 ∷ [] = c.in_ok-push.ensures.items
    ∙ ap (λ l. l ++ c.in_ok-word.field-0 ∷ []) c.new-names.ensures.items in
    let second : c.push-2.new.self.items
    ≡ c.in_ok-word.field-0 ∷ c.in_ok-word-2.field-0 ∷ [] = c.in_ok-push-2.ensures.items
    ∙ ap (λ l. l ++ c.in_ok-word-2.field-0 ∷ []) first in
    let third : c.push-3.new.self.items
    ≡ c.in_ok-word.field-0 ∷ c.in_ok-word-2.field-0 ∷ c.in_ok-word-3.field-0 ∷ [] = c.in_ok-push-3.ensures.items
    ∙ ap (λ l. l ++ c.in_ok-word-3.field-0 ∷ []) second in
    let all : c.push-4.new.self.items
    ≡ c.in_ok-word.field-0 ∷ c.in_ok-word-2.field-0 ∷ c.in_ok-word-3.field-0 ∷ c.in_ok-word-4.field-0 ∷ [] =
    c.in_ok-push-4.ensures.items ∙ ap (λ l. l ++ c.in_ok-word-4.field-0 ∷ []) third in
    rw all
    (four_rise _ by_bytes c.in_ok-word.field-0 c.in_ok-word-2.field-0 c.in_ok-word-3.field-0 c.in_ok-word-4.field-0 _
    _ _ _ c.in_ok-word.ensures c.in_ok-word-2.ensures c.in_ok-word-3.ensures c.in_ok-word-4.ensures refl refl refl
    refl refl refl)
