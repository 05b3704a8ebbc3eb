-- Links, and the chains that end with them.
use Rattle.std.proofs.Common.{◌≡◌, ℕ, ◌<◌, ◌+◌, zero, suc, List, [], ◌∷◌, ◌++◌, length, get_or, reverse, Option, Some, None, refl, ap, sym, ◌∙◌, subst, arith, length-append, append_assoc}
use Rattle.std.specs.Prelude.{fold}
use Rattle.std.proofs.Math.ListN.{get_or-append}
use Rattle.std.proofs.Math.Seq.{get_or-append_seam}
use Rattle.std.proofs.lemmas.List.{reverse-append}
use Rattle.std.proofs.lemmas.List.Sums.{fold-append}
use Rattle.mf_chains.specs.declared.chain.Step.{Step}
use Rattle.mf_chains.specs.declared.chain.Chain.{Chain}
use Rattle.mf_chains.specs.declared.links.Link.{Link}
use Rattle.mf_chains.specs.Chains.{with_step}
use Rattle.mf_chains.specs.Links.{AreLinked, NamesBefore, chain_on, chains_of, no_chain, with_link}

length_from : (chains : List Chain) (links : List Link) → length (fold with_link chains links) ≡ length chains + length links
length_from chains [] = omega arith
length_from chains (link ∷ links) =
    omega (arith, length_from (with_link chains link) links, length-append chains (chain_on chains link link.before ∷ []))

pub chains_length : (links : List Link) → length (chains_of links) ≡ length links
chains_length links = omega (arith, length_from [] links)

pub linked_push : (n : ℕ) (links : List Link) (link : Link) → AreLinked n links → NamesBefore (n + length links) link.before → AreLinked n (links ++ link ∷ [])
linked_push n [] link all before =
    let same : n + 0 ≡ n = omega arith in
    (subst (λ (k : ℕ). NamesBefore k link.before) same before, tt)
linked_push n (x ∷ links) link all before =
    let same : n + length (x ∷ links) ≡ (n + 1) + length links = omega arith in
    (all.0, linked_push (n + 1) links link all.1 (subst (λ (k : ℕ). NamesBefore k link.before) same before))

-- one link more
pub chains_push : (links : List Link) (link : Link) → chains_of (links ++ link ∷ []) ≡ with_link (chains_of links) link
chains_push links link = fold-append with_link [] links (link ∷ [])

-- the chains of links stay as more links come
stable : (chains : List Chain) (links : List Link) (k : ℕ) → k < length chains → get_or (fold with_link chains links) k no_chain ≡ get_or chains k no_chain
stable chains [] k within = refl
stable chains (link ∷ links) k within =
    stable (with_link chains link) links k (omega (arith, within, length-append chains (chain_on chains link link.before ∷ [])))
    ∙ get_or-append chains (chain_on chains link link.before ∷ []) no_chain k within

on_more : (chains : List Chain) (links : List Link) (link : Link) (before : Option ℕ) → NamesBefore (length chains) before
    → chain_on chains link before ≡ chain_on (fold with_link chains links) link before
on_more chains links link None names = refl
on_more chains links link (Some place) names = ap (with_step link.step) (sym (stable chains links place names))

chain_from : (chains : List Chain) (links : List Link) (n : ℕ) (d : Link) → AreLinked (length chains) links → n < length links
    → get_or (fold with_link chains links) (length chains + n) no_chain ≡ chain_on (fold with_link chains links) (get_or links n d) (get_or links n d).before
chain_from chains [] n d linked within = absurd (omega arith)
chain_from chains (link ∷ links) zero d linked within =
    let more : List Chain = with_link chains link in
    let place : length chains + 0 ≡ length chains = omega arith in
    ap (λ (k : ℕ). get_or (fold with_link more links) k no_chain) place
    ∙ stable more links (length chains) (omega (arith, length-append chains (chain_on chains link link.before ∷ [])))
    ∙ get_or-append_seam chains (chain_on chains link link.before) [] no_chain
    ∙ on_more chains (link ∷ links) link link.before linked.0
chain_from chains (link ∷ links) (suc n) d linked within =
    let more : List Chain = with_link chains link in
    let count : length chains + 1 ≡ length more = omega (arith, length-append chains (chain_on chains link link.before ∷ [])) in
    let place : length chains + suc n ≡ length more + n = omega (arith, count) in
    ap (λ (k : ℕ). get_or (fold with_link more links) k no_chain) place
    ∙ chain_from more links n d (subst (λ (k : ℕ). AreLinked k links) count linked.1) (omega arith)

-- the chain that ends with a link
pub chain_at : (links : List Link) (n : ℕ) (d : Link) → AreLinked 0 links → n < length links
    → get_or (chains_of links) n no_chain ≡ chain_on (chains_of links) (get_or links n d) (get_or links n d).before
chain_at links n d linked within =
    let place : n ≡ 0 + n = omega arith in
    ap (λ (k : ℕ). get_or (chains_of links) k no_chain) place ∙ chain_from [] links n d linked within

before_from : (k : ℕ) (links : List Link) (n : ℕ) (d : Link) → AreLinked k links → n < length links → NamesBefore (k + n) (get_or links n d).before
before_from k [] n d linked within = absurd (omega arith)
before_from k (link ∷ links) zero d linked within =
    let place : k ≡ k + 0 = omega arith in
    subst (λ (m : ℕ). NamesBefore m link.before) place linked.0
before_from k (link ∷ links) (suc n) d linked within =
    let place : (k + 1) + n ≡ k + suc n = omega arith in
    subst (λ (m : ℕ). NamesBefore m (get_or links n d).before) place (before_from (k + 1) links n d linked.1 (omega arith))

-- a link names one before it
pub names_before : (links : List Link) (n before : ℕ) (link d : Link) → AreLinked 0 links → n < length links → link ≡ get_or links n d → link.before ≡ Some before → before < n
names_before links n before link d linked within is named =
    let place : 0 + n ≡ n = omega arith in
    subst (NamesBefore n) (ap (λ (x : Link). x.before) (sym is) ∙ named)
    (subst (λ (k : ℕ). NamesBefore k (get_or links n d).before) place (before_from 0 links n d linked within))

-- Going back over links

pub none_if : (o : Option ℕ) → ((x : ℕ) → o ≡ Some x → ⊥) → o ≡ None
none_if None none = refl
none_if (Some x) none = absurd (none x refl)

abbrev pub no_link : Link
no_link = record { before = None; step = record { party = record { 0 = 0 }; event = 0; item = 0 } }

-- the chain with further steps, of which these are the newest first
abbrev pub going_on : Chain → List Step → Chain
going_on c steps = record c { steps = c.steps ++ reverse steps }

pub one_back : (links : List Link) (n before : ℕ) (link d : Link) (steps : List Step) → AreLinked 0 links → n < length links → link ≡ get_or links n d → link.before ≡ Some before
    → going_on (get_or (chains_of links) n no_chain) steps ≡ going_on (get_or (chains_of links) before no_chain) (steps ++ link.step ∷ [])
one_back links n before link d steps linked within is named =
    let c : Chain = get_or (chains_of links) before no_chain in
    ap (λ (x : Chain). going_on x steps)
    (chain_at links n d linked within ∙ ap (λ (x : Link). chain_on (chains_of links) x x.before) (sym is) ∙ ap (chain_on (chains_of links) link) named)
    ∙ ap (λ (xs : List Step). record c { steps = xs })
    (append_assoc c.steps (link.step ∷ []) (reverse steps) ∙ ap (λ (xs : List Step). c.steps ++ xs) (sym (reverse-append steps (link.step ∷ []))))

pub at_origin : (links : List Link) (n : ℕ) (link d : Link) (steps : List Step) → AreLinked 0 links → n < length links → link ≡ get_or links n d → link.before ≡ None
    → going_on (get_or (chains_of links) n no_chain) steps ≡ record { origin = link.step.party; event = link.step.event; steps = reverse steps }
at_origin links n link d steps linked within is named =
    ap (λ (x : Chain). going_on x steps)
    (chain_at links n d linked within ∙ ap (λ (x : Link). chain_on (chains_of links) x x.before) (sym is) ∙ ap (chain_on (chains_of links) link) named)
