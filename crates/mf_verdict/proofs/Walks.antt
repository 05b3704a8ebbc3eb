-- Walks along the lines of a text.
use Rattle.std.proofs.Common.{◌≡◌, ◌≢◌, ℕ, ◌+◌, ◌-◌, ◌≤◌, ◌<◌, List, [], ◌∷◌, ◌++◌, length, get_or, take, drop, refl, ap, sym, ◌∙◌, arith, append_assoc, append-nil, length-append, length-drop, take-append-drop, inl, inr}
use Rattle.std.proofs.lemmas.List.{take_at, length-take-le, take_more, take_more_same, get_or-take, get_or-drop, drop-drop}
use Rattle.std.specs.List.{concat}
use Rattle.std.specs.Str.{byte}
use Rattle.mf_verdict.specs.Pieces.{pieces, IsFirstDifference}
use Rattle.mf_hist.specs.Found.{Lacks}
use Rattle.mf_verdict.specs.Lines.{IsFirstLine}
use Rattle.mf_verdict.proofs.Pieces.{first_of_some, concat_pieces}

-- The place of a walk: so many bytes were passed, and the rest is left

pub record IsAt (text : List ℕ) (len : ℕ) (rest : List ℕ) : Type 0 where
  pub parts : text ≡ take len text ++ rest
  pub within : len + length rest ≡ length text

pub at_start : (text : List ℕ) → IsAt text 0 text
at_start text = record { parts = refl; within = omega arith }

module _ (text rest line after : List ℕ) (len : ℕ) (at : IsAt text len rest) (cut : rest ≡ line ++ after) where
  whole : text ≡ (take len text ++ line) ++ after
  whole = at.parts ∙ ap (λ (r : List ℕ). take len text ++ r) cut ∙ sym (append_assoc (take len text) line after)

  front_len : length (take len text ++ line) ≡ len + length line
  front_len =
      let inside : len ≤ length text = omega (arith, at.within) in
      omega (arith, length-append (take len text) line, length-take-le len text inside)

  pub at_more_front : take (len + length line) text ≡ take len text ++ line
  at_more_front = ap (take (len + length line)) whole ∙ take_at (take len text ++ line) after (len + length line) front_len

  pub at_more : IsAt text (len + length line) after
  at_more = record {
    parts = whole ∙ ap (λ (f : List ℕ). f ++ after) (sym at_more_front);
    within = omega (arith, at.within, ap length cut, length-append line after);
  }

-- One line more of the front

pub concat_push : (lines : List (List ℕ)) (line : List ℕ) → concat (lines ++ line ∷ []) ≡ concat lines ++ line
concat_push [] line = append-nil line
concat_push (x ∷ lines) line = ap (λ (t : List ℕ). x ++ t) (concat_push lines line) ∙ sym (append_assoc x (concat lines) line)

pub record IsNext (lines : List (List ℕ)) (n : ℕ) (line after : List ℕ) : Type 0 where
  pub line_is : line ≡ get_or lines n []
  pub left : pieces after ≡ drop (n + 1) lines

first_in : (left line after : List ℕ) → IsFirstLine left line after → (line ≡ get_or (pieces left) 0 []) × (pieces after ≡ drop 1 (pieces left))
first_in [] line after (inl is) = absurd (nothing is.front line after is.with_newline is.parts) where
  nothing : (front line after : List ℕ) → line ≡ front ++ byte "\n" ∷ [] → [] ≡ line ++ after → ⊥
  nothing front [] after e parts = none front e where
    none : (front : List ℕ) → [] ≡ front ++ byte "\n" ∷ [] → ⊥
    none [] e = cc
    none (b ∷ front) e = cc
  nothing front (b ∷ line) after e parts = cc
first_in [] line after (inr is) = (is.all, ap pieces is.none)
first_in (b ∷ bs) line after is =
    let first = first_of_some (b ∷ bs) line after (λ e. cc) is in
    (sym (ap (λ (lines : List (List ℕ)). get_or lines 0 []) first.lines), sym (ap (λ (lines : List (List ℕ)). drop 1 lines) first.lines))

pub next_is : (lines : List (List ℕ)) (n : ℕ) (left line after : List ℕ) → pieces left ≡ drop n lines → IsFirstLine left line after → IsNext lines n line after
next_is lines n left line after is first =
    let front = first_in left line after first in
    record {
      line_is = front.0 ∙ ap (λ (ls : List (List ℕ)). get_or ls 0 []) is ∙ get_or-drop n lines 0 [] ∙ ap (λ (k : ℕ). get_or lines k []) (omega arith);
      left = front.1 ∙ ap (λ (ls : List (List ℕ)). drop 1 ls) is ∙ drop-drop 1 n lines;
    }

-- where a line is left, the first that is left is that one
pub left_some : (lines : List (List ℕ)) (n : ℕ) (left : List ℕ) → n < length lines → pieces left ≡ drop n lines → left ≢ []
left_some lines n left lt is none = omega (arith, ap length (sym is ∙ ap pieces none), length-drop n lines)

pub front_more : (lines : List (List ℕ)) (n : ℕ) (front line after : List ℕ) → n < length lines → front ≡ concat (take n lines) → IsNext lines n line after
    → front ++ line ≡ concat (take (n + 1) lines)
front_more lines n front line after lt is next =
    ap (λ (f : List ℕ). f ++ line) is ∙ sym (concat_push (take n lines) line)
    ∙ ap (λ (l : List ℕ). concat (take n lines ++ l ∷ [])) next.line_is ∙ ap concat (sym (take_more lines n [] lt))

-- Two texts side by side

-- an empty first line is that of no text
pub line_none : (left line after : List ℕ) → IsFirstLine left line after → line ≡ [] → left ≡ []
line_none [] line after is none = refl
line_none (b ∷ bs) line after is none = absurd ((first_of_some (b ∷ bs) line after (λ e. cc) is).some none)

pub some_within : (lines : List (List ℕ)) (n : ℕ) (left line after : List ℕ) → pieces left ≡ drop n lines → IsFirstLine left line after → line ≢ [] → n < length lines
some_within lines n [] line after is (inl first) some = absurd (some ((first_in [] line after (inl first)).0))
some_within lines n [] line after is (inr first) some = absurd (some first.all)
some_within lines n (b ∷ bs) line after is first some =
    let one = first_of_some (b ∷ bs) line after (λ e. cc) first in
    omega (arith, ap length (sym one.lines ∙ is), length-drop n lines)

pub differs : (lines others : List (List ℕ)) (n : ℕ) (line after other behind : List ℕ) → take n lines ≡ take n others → IsNext lines n line after → IsNext others n other behind
    → line ≢ other → IsFirstDifference lines others (n + 1)
differs lines others n line after other behind same next second apart = (
  omega arith,
  (let back : n + 1 - 1 ≡ n = omega arith in ap (λ (k : ℕ). take k lines) back ∙ same ∙ sym (ap (λ (k : ℕ). take k others) back)),
  λ e. apart (next.line_is ∙ sym (get_or-take (n + 1) lines n [] (omega arith)) ∙ ap (λ (ls : List (List ℕ)). get_or ls n []) e
      ∙ get_or-take (n + 1) others n [] (omega arith) ∙ sym second.line_is),
)

pub agrees : (lines others : List (List ℕ)) (n : ℕ) (line after other behind : List ℕ) → take n lines ≡ take n others → n < length lines → n < length others
    → IsNext lines n line after → IsNext others n other behind → line ≡ other → take (n + 1) lines ≡ take (n + 1) others
agrees lines others n line after other behind same lt ls next second equal =
    take_more_same lines others n [] lt ls same (sym next.line_is ∙ equal ∙ second.line_is)

-- two texts whose lines agree up to the end of both
pub same_text : (text other : List ℕ) (n : ℕ) → take n (pieces text) ≡ take n (pieces other) → [] ≡ drop n (pieces text) → [] ≡ drop n (pieces other) → text ≡ other
same_text text other n same none nothing =
    sym (concat_pieces text) ∙ ap concat (sym (take-append-drop n (pieces text)) ∙ ap (λ (ls : List (List ℕ)). take n (pieces text) ++ ls) (sym none)
    ∙ ap (λ (ls : List (List ℕ)). ls ++ []) same
    ∙ ap (λ (ls : List (List ℕ)). take n (pieces other) ++ ls) nothing ∙ take-append-drop n (pieces other)) ∙ concat_pieces other

-- the first line that ends with its newline
pub split_some : (text front after line rest : List ℕ) → text ≡ front ++ byte "\n" ∷ after → Lacks (byte "\n") front → line ≡ take (length front + 1) text → text ≡ line ++ rest
    → IsFirstLine text line rest
split_some text front after line rest is lacks cut parts = inl (record {
  front = front;
  lacks = lacks;
  with_newline = cut ∙ ap (take (length front + 1)) (is ∙ sym (append_assoc front (byte "\n" ∷ []) after)) ∙ take_at (front ++ byte "\n" ∷ []) after (length front + 1) (length-append front (byte "\n" ∷ []));
  parts = parts;
})
