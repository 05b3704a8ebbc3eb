-- What each party holds after one thing more.
use Rattle.std.proofs.Common.{◌≡◌, ℕ, ◌<◌, ◌≤◌, ◌+◌, ◌-◌, Bool, true, false, cond, nat_eq, List, [], ◌∷◌, ◌++◌, length, take, drop, get_or, map, reverse, Option, Some, None, Result, Ok, Err, refl, ap, sym, ◌∙◌, subst, arith, length-append}
use Rattle.std.specs.Prelude.{IfOk}
use Rattle.std.specs.List.{sum}
use Rattle.std.proofs.lemmas.Bool.Decides.{nat_tests}
use Rattle.std.proofs.lemmas.List.{length-map, reverse-append, take-append-drop}
use Rattle.mf_elem.specs.declared.elem.Elem.{Elem}
use Rattle.mf_objects.specs.declared.id.Id.{Id}
use Rattle.mf_flow.proofs.Moves.{same_id}
use Rattle.mf_chains.specs.declared.happening.Happening.{Happening}
use Rattle.mf_chains.specs.declared.happening.Happening.TheVariants.{Labelled, Moves}
use Rattle.mf_chains.specs.declared.happening.Occurrence.{Occurrence}
use Rattle.mf_chains.specs.declared.chain.Step.{Step}
use Rattle.mf_chains.specs.declared.chain.Chain.{Chain}
use Rattle.mf_chains.specs.declared.marks.Mark.{Mark}
use Rattle.std.specs.Option.{option_map_or}
use Rattle.std.proofs.Math.Seq.{get_or-append_seam}
use Rattle.mf_chains.specs.Links.{no_chain}
use Rattle.mf_chains.specs.Chains.{from_origin, giver_of, loses, maker_for, own_of, step_at}
use Rattle.mf_chains.specs.Kept.{Kept, added_by, added_to, additions, handed_on, kept, kept_after, own_kept, receivers_of, still_kept, stepped, with_lacking}
use Rattle.mf_chains.specs.Marks.{AllAreThere, AreThere, Extends, Sets, given_to, kept_at, kept_in, kept_of, set_at}
use Rattle.mf_chains.proofs.Joining.{lacking_nothing, same_in, still_there}
use Rattle.mf_chains.proofs.Traced.{newest}

-- One set more

module _ (before chains : List Chain) (sets sets' : Sets) (number : ℕ) (new : List Mark) (extends : Extends before chains) (there : AllAreThere before sets)
    (put : (n : ℕ) → set_at sets' n ≡ cond (nat_eq n number) new (set_at sets n)) where
  pub put_kept : (n : ℕ) → kept_in chains (set_at sets' n) ≡ cond (nat_eq n number) (kept_in chains new) (kept_in before (set_at sets n))
  put_kept n = ap (kept_in chains) (put n) ∙ one (nat_eq n number)
    where
      one : (b : Bool) → kept_in chains (cond b new (set_at sets n)) ≡ cond b (kept_in chains new) (kept_in before (set_at sets n))
      one true = refl
      one false = same_in before chains (set_at sets n) extends (there n)

  pub put_there : AreThere chains new → AllAreThere chains sets'
  put_there all n = subst (AreThere chains) (sym (put n)) (one (nat_eq n number))
    where
      one : (b : Bool) → AreThere chains (cond b new (set_at sets n))
      one true = all
      one false = still_there before chains (set_at sets n) extends (there n)

pub same_at : (before chains : List Chain) (sets : Sets) (p : Id) → Extends before chains → AllAreThere before sets → kept_at chains sets p ≡ kept_at before sets p
same_at before chains sets p extends there = same_in before chains (set_at sets p.0) extends (there p.0)

pub all_still : (before chains : List Chain) (sets : Sets) → Extends before chains → AllAreThere before sets → AllAreThere chains sets
all_still before chains sets extends there n = still_there before chains (set_at sets n) extends (there n)

pub longer : (before chains : List Chain) → Extends before chains → length before ≤ length chains
longer before chains extends = omega (arith, ap length extends.1, length-append before extends.0)

pub kept_length : (chains : List Chain) (marks : List Mark) → length (kept_in chains marks) ≡ length marks
kept_length chains marks = length-map marks (kept_of chains)

-- two sets more, one after the other
pub two_kept : (before middle chains : List Chain) (sets sets1 sets2 : Sets) (n1 n2 : ℕ) (set1 set2 : List Mark) (g1 g2 : List Kept) → Extends before middle → Extends middle chains
    → AllAreThere before sets → AreThere middle set1 → kept_in middle set1 ≡ g1 → kept_in chains set2 ≡ g2 → ((n : ℕ) → set_at sets1 n ≡ cond (nat_eq n n1) set1 (set_at sets n))
    → ((n : ℕ) → set_at sets2 n ≡ cond (nat_eq n n2) set2 (set_at sets1 n)) → (n : ℕ)
    → kept_in chains (set_at sets2 n) ≡ cond (nat_eq n n2) g2 (cond (nat_eq n n1) g1 (kept_in before (set_at sets n)))
two_kept before middle chains sets sets1 sets2 n1 n2 set1 set2 g1 g2 first then there there1 is1 is2 put1 put2 n =
    put_kept middle chains sets1 sets2 n2 set2 then (put_there before middle sets sets1 n1 set1 first there put1 there1) put2 n
    ∙ ap (λ (ks : List Kept). cond (nat_eq n n2) ks (kept_in middle (set_at sets1 n))) is2
    ∙ ap (λ (ks : List Kept). cond (nat_eq n n2) g2 ks)
    (put_kept before middle sets sets1 n1 set1 first there put1 n ∙ ap (λ (ks : List Kept). cond (nat_eq n n1) ks (kept_in before (set_at sets n))) is1)

pub given_same : (x : Occurrence) (f g : Id → List Kept) (from to : Id) → ((q : Id) → f q ≡ g q) → given_to x f from to ≡ given_to x g from to
given_same x f g from to same =
    ap (λ (ks : List Kept). with_lacking ks (map (stepped (step_at x to)) (f from))) (same to)
    ∙ ap (λ (ks : List Kept). with_lacking (g to) (map (stepped (step_at x to)) ks)) (same from)

-- a party's own element, and what its maker hands on
pub first_kept : (before begun : List Chain) (sets : Sets) (step : Step) (element : Elem) (own : Option Elem) (maker : Option Id) (link : ℕ) (given : List Mark) → own ≡ Some element
    → begun ≡ before ++ from_origin step.party step.event ∷ [] → link ≡ length before → AllAreThere before sets → given ≡ option_map_or (λ id. set_at sets id.0) maker []
    → with_lacking (kept_in begun (record { element = element; link = link } ∷ [])) (map (stepped step) (kept_in begun given))
    ≡ with_lacking (own_kept own step.party step.event) (handed_on (maker_for own maker) (kept_at before sets) step)
first_kept before begun sets step element own maker link given own_is begun_is link_is there given_is =
    ap (λ (c : Chain). with_lacking (record { element = element; chain = c } ∷ []) (map (stepped step) (kept_in begun given)))
    (ap (λ (cs : List Chain). get_or cs link no_chain) begun_is ∙ ap (λ (n : ℕ). get_or (before ++ from_origin step.party step.event ∷ []) n no_chain) link_is
    ∙ get_or-append_seam before (from_origin step.party step.event) [] no_chain)
    ∙ ap (with_lacking (own_kept (Some element) step.party step.event)) (ap (λ (marks : List Mark). map (stepped step) (kept_in begun marks)) given_is ∙ made maker)
    ∙ sym (ap (λ (o : Option Elem). with_lacking (own_kept o step.party step.event) (handed_on (maker_for o maker) (kept_at before sets) step)) own_is)
  where
    made : (by : Option Id) → map (stepped step) (kept_in begun (option_map_or (λ id. set_at sets id.0) by [])) ≡ handed_on by (kept_at before sets) step
    made None = refl
    made (Some id) = ap (map (stepped step)) (same_in before begun (set_at sets id.0) (from_origin step.party step.event ∷ [], begun_is) (there id.0))

-- By what happened

handed_same : (giver : Option Id) (f g : Id → List Kept) (step : Step) → ((q : Id) → f q ≡ g q) → handed_on giver f step ≡ handed_on giver g step
handed_same None f g step same = refl
handed_same (Some q) f g step same = ap (map (stepped step)) (same q)

pub after_same : (x : Occurrence) (f g : Id → List Kept) (p : Id) → ((q : Id) → f q ≡ g q) → kept_after x f p ≡ kept_after x g p
after_same x f g p same =
    ap (λ (ks : List Kept). with_lacking (with_lacking (own_kept (own_of x.what p) p x.event) (still_kept (loses x.what p) ks)) (handed_on (giver_of x.what p) f (step_at x p))) (same p)
    ∙ ap (with_lacking (with_lacking (own_kept (own_of x.what p) p x.event) (still_kept (loses x.what p) (g p)))) (handed_same (giver_of x.what p) f g (step_at x p) same)

added_same : (x : Occurrence) (f g : Id → List Kept) (p : Id) → ((q : Id) → f q ≡ g q) → added_to x f p ≡ added_to x g p
added_same x f g p same =
    ap (λ (ks : List Kept). length ks - length (still_kept (loses x.what p) (f p))) (after_same x f g p same)
    ∙ ap (λ (ks : List Kept). length (kept_after x g p) - length (still_kept (loses x.what p) ks)) (same p)

pub all_added_same : (x : Occurrence) (f g : Id → List Kept) → ((q : Id) → f q ≡ g q) → added_by x f ≡ added_by x g
all_added_same x f g same = ap sum (over (receivers_of x.what))
  where
    over : (ps : List Id) → map (added_to x f) ps ≡ map (added_to x g) ps
    over [] = refl
    over (p ∷ ps) = ap (λ (n : ℕ). n ∷ map (added_to x f) ps) (added_same x f g p same) ∙ ap (λ (ns : List ℕ). added_to x g p ∷ ns) (over ps)

-- a party is labelled
pub labelled_after : (event item : ℕ) (q : Id) (own : Option Elem) (maker : Option Id) (before : Id → List Kept) (p : Id)
    → let x : Occurrence = record { event = event; item = item; what = Labelled q own maker } in
    kept_after x before p ≡ cond (nat_eq p.0 q.0) (with_lacking (own_kept own q event) (handed_on (maker_for own maker) before (step_at x q))) (before p)
labelled_after event item q own maker before p = one (nat_eq p.0 q.0) refl
  where
    x : Occurrence
    x = record { event = event; item = item; what = Labelled q own maker }

    one : (b : Bool) → nat_eq p.0 q.0 ≡ b
        → with_lacking (with_lacking (own_kept (cond b own None) p event) (still_kept b (before p))) (handed_on (cond b (maker_for own maker) None) before (record { party = p; event = event; item = item }))
        ≡ cond b (with_lacking (own_kept own q event) (handed_on (maker_for own maker) before (record { party = q; event = event; item = item }))) (before p)
    one true is =
        let here : p ≡ q = same_id p q is in
        ap (λ (ks : List Kept). with_lacking ks (handed_on (maker_for own maker) before (record { party = p; event = event; item = item }))) (lacking_nothing (own_kept own p event))
        ∙ ap (λ (r : Id). with_lacking (own_kept own r event) (handed_on (maker_for own maker) before (record { party = r; event = event; item = item }))) here
    one false is = lacking_nothing (before p)

-- what moves

pub moved_after : (x : Occurrence) (giver : Option Id) (before : Id → List Kept) (p : Id) → own_of x.what p ≡ None → loses x.what p ≡ false → giver_of x.what p ≡ giver
    → kept_after x before p ≡ with_lacking (before p) (handed_on giver before (step_at x p))
moved_after x giver before p none keeps gives =
    ap (λ (own : Option Elem). with_lacking (with_lacking (own_kept own p x.event) (still_kept (loses x.what p) (before p))) (handed_on (giver_of x.what p) before (step_at x p))) none
    ∙ ap (λ (lost : Bool). with_lacking (still_kept lost (before p)) (handed_on (giver_of x.what p) before (step_at x p))) keeps
    ∙ ap (λ (g : Option Id). with_lacking (before p) (handed_on g before (step_at x p))) gives

-- one party alone gets something
pub one_after : (x : Occurrence) (from to : Id) (before : Id → List Kept) → ((p : Id) → own_of x.what p ≡ None) → ((p : Id) → loses x.what p ≡ false)
    → ((p : Id) → giver_of x.what p ≡ cond (nat_eq p.0 to.0) (Some from) None) → (p : Id)
    → kept_after x before p ≡ cond (nat_eq p.0 to.0) (given_to x before from to) (before p)
one_after x from to before none keeps gives p = moved_after x (cond (nat_eq p.0 to.0) (Some from) None) before p (none p) (keeps p) (gives p) ∙ one (nat_eq p.0 to.0) refl
  where
    one : (b : Bool) → nat_eq p.0 to.0 ≡ b → with_lacking (before p) (handed_on (cond b (Some from) None) before (step_at x p)) ≡ cond b (given_to x before from to) (before p)
    one true is = ap (λ (r : Id). given_to x before from r) (same_id p to is)
    one false is = lacking_nothing (before p)

-- each of two gets what the other had
pub both_after : (x : Occurrence) (subject object : Id) (before : Id → List Kept) → ((p : Id) → own_of x.what p ≡ None) → ((p : Id) → loses x.what p ≡ false)
    → ((p : Id) → giver_of x.what p ≡ cond (nat_eq p.0 subject.0) (Some object) (cond (nat_eq p.0 object.0) (Some subject) None)) → (p : Id)
    → kept_after x before p ≡ cond (nat_eq p.0 object.0) (given_to x before subject object) (cond (nat_eq p.0 subject.0) (given_to x before object subject) (before p))
both_after x subject object before none keeps gives p =
    moved_after x (cond (nat_eq p.0 subject.0) (Some object) (cond (nat_eq p.0 object.0) (Some subject) None)) before p (none p) (keeps p) (gives p)
    ∙ one (nat_eq p.0 object.0) (nat_eq p.0 subject.0) refl refl
  where
    one : (b b' : Bool) → nat_eq p.0 object.0 ≡ b → nat_eq p.0 subject.0 ≡ b'
        → with_lacking (before p) (handed_on (cond b' (Some object) (cond b (Some subject) None)) before (step_at x p))
        ≡ cond b (given_to x before subject object) (cond b' (given_to x before object subject) (before p))
    one true true is is' =
        let to : p ≡ object = same_id p object is in
        let from : p ≡ subject = same_id p subject is' in
        ap (λ (r : Id). given_to x before object r) to ∙ ap (λ (r : Id). given_to x before r object) (sym to ∙ from)
    one true false is is' = ap (λ (r : Id). given_to x before subject r) (same_id p object is)
    one false true is is' = ap (λ (r : Id). given_to x before object r) (same_id p subject is')
    one false false is is' = lacking_nothing (before p)

pub to_subject_after : (x : Occurrence) (subject object : Id) (to_subject to_object : Bool) (before : Id → List Kept) → x.what ≡ Moves subject object to_subject to_object → to_subject ≡ true
    → to_object ≡ false → (p : Id) → kept_after x before p ≡ cond (nat_eq p.0 subject.0) (given_to x before object subject) (before p)
to_subject_after x subject object to_subject to_object before is on off =
    let what : x.what ≡ Moves subject object true false = is ∙ ap (λ (b : Bool). Moves subject object b to_object) on ∙ ap (λ (b : Bool). Moves subject object true b) off in
    one_after x object subject before (λ p. ap (λ (w : Happening). own_of w p) what) (λ p. ap (λ (w : Happening). loses w p) what) (λ p. ap (λ (w : Happening). giver_of w p) what)

pub to_object_after : (x : Occurrence) (subject object : Id) (to_subject to_object : Bool) (before : Id → List Kept) → x.what ≡ Moves subject object to_subject to_object → to_subject ≡ false
    → to_object ≡ true → (p : Id) → kept_after x before p ≡ cond (nat_eq p.0 object.0) (given_to x before subject object) (before p)
to_object_after x subject object to_subject to_object before is off on =
    let what : x.what ≡ Moves subject object false true = is ∙ ap (λ (b : Bool). Moves subject object b to_object) off ∙ ap (λ (b : Bool). Moves subject object false b) on in
    one_after x subject object before (λ p. ap (λ (w : Happening). own_of w p) what) (λ p. ap (λ (w : Happening). loses w p) what) (λ p. ap (λ (w : Happening). giver_of w p) what)

pub exchanged_after : (x : Occurrence) (subject object : Id) (to_subject to_object : Bool) (before : Id → List Kept) → x.what ≡ Moves subject object to_subject to_object → to_subject ≡ true
    → to_object ≡ true → (p : Id)
    → kept_after x before p ≡ cond (nat_eq p.0 object.0) (given_to x before subject object) (cond (nat_eq p.0 subject.0) (given_to x before object subject) (before p))
exchanged_after x subject object to_subject to_object before is on also =
    let what : x.what ≡ Moves subject object true true = is ∙ ap (λ (b : Bool). Moves subject object b to_object) on ∙ ap (λ (b : Bool). Moves subject object true b) also in
    both_after x subject object before (λ p. ap (λ (w : Happening). own_of w p) what) (λ p. ap (λ (w : Happening). loses w p) what) (λ p. ap (λ (w : Happening). giver_of w p) what)

pub nothing_after : (x : Occurrence) (subject object : Id) (to_subject to_object : Bool) (before : Id → List Kept) → x.what ≡ Moves subject object to_subject to_object → to_subject ≡ false
    → to_object ≡ false → (p : Id) → before p ≡ kept_after x before p
nothing_after x subject object to_subject to_object before is off neither p =
    let what : x.what ≡ Moves subject object false false = is ∙ ap (λ (b : Bool). Moves subject object b to_object) off ∙ ap (λ (b : Bool). Moves subject object false b) neither in
    sym (moved_after x None before p (ap (λ (w : Happening). own_of w p) what) (ap (λ (w : Happening). loses w p) what) (ap (λ (w : Happening). giver_of w p) what) ∙ lacking_nothing (before p))

-- how many come by an exchange
pub exchanged_count : (x : Occurrence) (subject object : Id) (to_subject to_object : Bool) (before : Id → List Kept) (old now : ℕ) → x.what ≡ Moves subject object to_subject to_object
    → to_subject ≡ true → to_object ≡ true
    → now ≡ old + ((length (given_to x before object subject) - length (before subject)) + (length (given_to x before subject object) - length (before object))) → now ≡ old + added_by x before
exchanged_count x subject object to_subject to_object before old now is on also count =
    let what : x.what ≡ Moves subject object true true = is ∙ ap (λ (b : Bool). Moves subject object b to_object) on ∙ ap (λ (b : Bool). Moves subject object true b) also in
    let to_it : (p : Id) → still_kept (loses x.what p) (before p) ≡ before p = λ p. ap (λ (w : Happening). still_kept (loses w p) (before p)) what in
    let both : receivers_of x.what ≡ subject ∷ object ∷ [] = ap receivers_of what in
    let at_subject : kept_after x before subject ≡ given_to x before object subject = here subject object what in
    let at_object : kept_after x before object ≡ given_to x before subject object = there subject object what in
    omega (arith, count, ap (λ (ps : List Id). sum (map (added_to x before) ps)) both, ap length (to_it subject), ap length (to_it object), ap length at_subject, ap length at_object)
  where
    itself : (n : ℕ) → nat_eq n n ≡ true
    itself n = grind (arith, nat_tests)

    here : (subject object : Id) → x.what ≡ Moves subject object true true → kept_after x before subject ≡ given_to x before object subject
    here subject object what =
        moved_after x (Some object) before subject (ap (λ (w : Happening). own_of w subject) what) (ap (λ (w : Happening). loses w subject) what)
        (ap (λ (w : Happening). giver_of w subject) what ∙ ap (λ (b : Bool). cond b (Some object) (cond (nat_eq subject.0 object.0) (Some subject) None)) (itself subject.0))

    there : (subject object : Id) → x.what ≡ Moves subject object true true → kept_after x before object ≡ given_to x before subject object
    there subject object what =
        exchanged_after x subject object true true before what refl refl object
        ∙ ap (λ (b : Bool). cond b (given_to x before subject object) (cond (nat_eq object.0 subject.0) (given_to x before object subject) (before object))) (itself object.0)

-- Over all that happened

suffix : (xs older : List Occurrence) → additions older ≤ additions (xs ++ older)
suffix [] older = omega arith
suffix (x ∷ xs) older = omega (arith, suffix xs older)

pub first_few : (past : List Occurrence) (n : ℕ) → additions (reverse (take n past)) ≤ additions (reverse past)
first_few past n =
    let parts : reverse (drop n past) ++ reverse (take n past) ≡ reverse past =
    sym (reverse-append (take n past) (drop n past)) ∙ ap reverse (take-append-drop n past) in
    omega (arith, suffix (reverse (drop n past)) (reverse (take n past)), ap additions parts)

pub if_ok_also : {X Y : Type 0} (r : Result X Y) (P Q : X → Type 0) → ((x : X) → P x → Q x) → IfOk r P → IfOk r Q
if_ok_also (Ok x) P Q gives one = gives x one
if_ok_also (Err y) P Q gives one = tt

pub sizes : (chains : List Chain) (sets : Sets) (more also : ℕ) (subject object : Id)
    → (more - length (set_at sets subject.0)) + (also - length (set_at sets object.0)) ≡ (more - length (kept_at chains sets subject)) + (also - length (kept_at chains sets object))
sizes chains sets more also subject object = omega (arith, kept_length chains (set_at sets subject.0), kept_length chains (set_at sets object.0))

-- one thing more of the past

pub kept_more : (past : List Occurrence) (n : ℕ) (x d : Occurrence) (f g : Id → List Kept) → n < length past → x ≡ get_or past n d → ((p : Id) → f p ≡ kept (reverse (take n past)) p)
    → ((p : Id) → g p ≡ kept_after x f p) → (p : Id) → g p ≡ kept (reverse (take (n + 1) past)) p
kept_more past n x d f g within is so_far more p =
    more p ∙ after_same x f (kept (reverse (take n past))) p so_far
    ∙ sym (ap (λ (xs : List Occurrence). kept xs p) (newest past n d within ∙ ap (λ (y : Occurrence). y ∷ reverse (take n past)) (sym is)))

pub counted_more : (past : List Occurrence) (n : ℕ) (x d : Occurrence) (f : Id → List Kept) (old now : ℕ) → n < length past → x ≡ get_or past n d
    → ((p : Id) → f p ≡ kept (reverse (take n past)) p) → old ≡ additions (reverse (take n past)) → now ≡ old + added_by x f → now ≡ additions (reverse (take (n + 1) past))
counted_more past n x d f old now within is so_far count more =
    more ∙ ap (λ (k : ℕ). k + added_by x f) count ∙ ap (λ (k : ℕ). additions (reverse (take n past)) + k) (all_added_same x f (kept (reverse (take n past))) so_far)
    ∙ sym (ap additions (newest past n d within ∙ ap (λ (y : Occurrence). y ∷ reverse (take n past)) (sym is)))
