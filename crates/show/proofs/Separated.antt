-- The modifiers of a link, one after the other. Assumes nothing.
use Rattle.std.proofs.Common.{◌≡◌, List, [], ◌∷◌, ◌++◌, codes, sym, refl, ap, ◌∙◌, append_assoc}
use Rattle.escape.specs.Escaped.{escaped}
use Rattle.words.specs.Spellings as word
use Rattle.words.specs.declared.link.Modifier.{Modifier}
use Rattle.flags.specs.Meaning.{Bytes}
use Rattle.show.specs.Shown.{modifier, further}

-- what is left to print, where a separator comes next
abbrev pub left : Bytes → List Modifier → Bytes
left separator [] = []
left separator (m ∷ ms) = separator ++ (modifier m ++ further ms)

behind_comma : (ms : List Modifier) → left (codes ",") ms ≡ further ms
behind_comma [] = refl
behind_comma (m ∷ ms) = refl

-- one more, whose spelling the call told
pub one_more : (written separator spelling : Bytes) (m : Modifier) (ms ns : List Modifier) {whole : Bytes} → ns ≡ m ∷ ms → spelling ≡ word.modifier m → written ++ left separator ns ≡ whole → (written ++ (separator ++ escaped spelling)) ++ left (codes ",") ms ≡ whole
one_more written separator spelling m ms ns first spelt e =
    (λ i. (written ++ (separator ++ escaped (spelt i))) ++ behind_comma ms i)
    ∙ append_assoc written (separator ++ modifier m) (further ms)
    ∙ ap (λ l. written ++ l) (append_assoc separator (modifier m) (further ms))
    ∙ ap (λ ns. written ++ left separator ns) (sym first)
    ∙ e
