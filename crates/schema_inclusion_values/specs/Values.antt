-- Values, and which of them a type of a meaning has.
use Rattle.std.specs.Prelude.{◌≡◌, ◌⊎◌, ℕ, ℤ, Bool, true, false, List, ⊤}
use Rattle.std.specs.declared.cmp.Ordering.TheVariants.{Less}
use Rattle.cedar_data.specs.Text.{text_cmp}
use Rattle.cedar_names.specs.Meaning.{PlainType, Attributes, no_more, attribute}

-- a text, as its characters
abbrev pub Text : Type 0
Text = List ℕ

-- the texts of its components
abbrev pub Name : Type 0
Name = List Text

-- a value: of a primitive type, the entity of a type with an id, the one value of an extension type, a set, a record
mutual
  pub data Val : Type 0 where
    Truth : Bool → Val
    Number : ℤ → Val
    Str : Text → Val
    Ref : Name → Text → Val
    Ext : Text → Val
    Set : Vals → Val
    Rec : Entries → Val

  pub data Vals : Type 0 where
    no_vals : Vals
    val : Val → Vals → Vals

  pub data Entries : Type 0 where
    no_entries : Entries
    entry : Text → Val → Entries → Entries

-- ---- lists of values, and records

-- P holds of each
abbrev pub AllVals : (Val → Type 0) → Vals → Type 0
AllVals P no_vals = ⊤
AllVals P (val v vs) = P v × AllVals P vs

-- P holds of each name with its value
abbrev pub AllEntries : (Text → Val → Type 0) → Entries → Type 0
AllEntries P no_entries = ⊤
AllEntries P (entry n v es) = P n v × AllEntries P es

-- the first name is less, by bytes
abbrev pub below : Text → Text → Type 0
below m n = text_cmp m n ≡ Less

-- by rising names, so no name stands twice
abbrev pub Rises : Entries → Type 0
Rises no_entries = ⊤
Rises (entry n v es) = AllEntries (λ m w. below n m) es × Rises es

-- the record has the attribute
abbrev pub IsThere : Text → Entries → Type 0
IsThere n no_entries = ⊥
IsThere n (entry m v es) = (m ≡ n) ⊎ IsThere n es

-- each required attribute is there
abbrev pub RequiredThere : Attributes → Entries → Type 0
RequiredThere no_more es = ⊤
RequiredThere (attribute n true t fs) es = IsThere n es × RequiredThere fs es
RequiredThere (attribute n false t fs) es = RequiredThere fs es

-- ---- which values a type has

abbrev pub IsBool : Val → Type 0
IsBool (Truth b) = ⊤
IsBool _ = ⊥

abbrev pub IsLong : Val → Type 0
IsLong (Number n) = ⊤
IsLong _ = ⊥

abbrev pub IsStr : Val → Type 0
IsStr (Str s) = ⊤
IsStr _ = ⊥

abbrev pub IsExt : Text → Val → Type 0
IsExt n (Ext m) = m ≡ n
IsExt n _ = ⊥

abbrev pub IsRef : (Name → Text → Type 0) → Name → Val → Type 0
IsRef Fits n (Ref m id) = (m ≡ n) × Fits n id
IsRef Fits n _ = ⊥

abbrev pub IsSet : (Val → Type 0) → Val → Type 0
IsSet P (Set vs) = AllVals P vs
IsSet P _ = ⊥

abbrev pub IsRec : (Text → Val → Type 0) → Attributes → Val → Type 0
IsRec P fs (Rec es) = Rises es × AllEntries P es × RequiredThere fs es
IsRec P fs _ = ⊥

-- which ids an entity type has
module _ (Fits : Name → Text → Type 0) where
  abbrev mutual
    pub Has : PlainType → Val → Type 0
    Has PlainType.Bool = IsBool
    Has PlainType.Long = IsLong
    Has PlainType.String = IsStr
    Has (PlainType.Ext n) = IsExt n
    Has (PlainType.Entity n) = IsRef Fits n
    Has (PlainType.Set t) = IsSet (Has t)
    Has (PlainType.Rec fs) = IsRec (FieldHas fs) fs

    -- the name is an attribute whose type has the value
    pub FieldHas : Attributes → Text → Val → Type 0
    FieldHas no_more n v = ⊥
    FieldHas (attribute m r t fs) n v = ((m ≡ n) × Has t v) ⊎ FieldHas fs n v
