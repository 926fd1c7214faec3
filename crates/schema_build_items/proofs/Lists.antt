-- Lists side by side.
use Rattle.std.proofs.Common.{◌≡◌, ℕ, ◌+◌, ◌<◌, List, [], ◌∷◌, ◌++◌, map, length, take, get_or, sym, ap, ◌∙◌, arith}
use Rattle.std.specs.List.{AllZip}
use Rattle.std.proofs.lemmas.List.{get_or-map, length-map}
use Rattle.schema_build_expand.proofs.Made.{zip_more}

-- one more of each, where the items of a list are seen by f
pub zip_seen_more : {W X Y : Type 0} (f : W → X) (R : X → Y → Type 0) (ws : List W) (ys : List Y) (i : ℕ) (w : W)
    (y : Y) → i < length ws → w ≡ get_or ws i w → AllZip R (take i (map f ws)) ys → R (f w) y
    → AllZip R (take (i + 1) (map f ws)) (ys ++ y ∷ [])
zip_seen_more f R ws ys i w y lt at h r = zip_more R (map f ws) ys i (f w) y (omega (arith, lt, length-map ws f))
    (sym (get_or-map f ws i w (f w) lt ∙ ap f (sym at))) h r
