-- What is read of files, directories, pipes and sockets fits its fields.
use Rattle.std.proofs.Common.{◌≡◌, ℕ, ◌<◌, ◌^◌, Bool, true, false, cond, List, [], ◌∷◌, length, map, Option, Some, None, min, refl, ap, sym, ◌∙◌, arith, slice_index_or}
use Rattle.std.specs.Prelude.{filter}
use Rattle.std.specs.List.{AllByRecursion}
use Rattle.std.proofs.Math.Nat.{min_comm}
use Rattle.std.proofs.lemmas.List.{length-take, length-map}
use Rattle.std.proofs.lemmas.List.Elements.{All-from_recursion, recursion_from_All}
use Rattle.std.proofs.lemmas.List.Sorted.{All-permutation}
use Rattle.std.proofs.lemmas.List.Sums.{count_by-le-length, length-filter}
use Rattle.mf_names.specs.declared.limits.TheConstants.{CONTENT_LIMIT, SCRIPT_LIMIT}
use Rattle.mf_objects.specs.declared.limits.TheConstants.{HEAD_BYTES, MOST_NAMES}
use Rattle.mf_objects.specs.declared.id.Id.{Id}
use Rattle.mf_objects.specs.Head.{head_of}
use Rattle.mf_objects.specs.Live.{LiveEntity, Entities, content_at, count_at, cred_at, entry_count, file_at, is_entry, live_at, messages_at, messages_of, no_cred, no_file, has_id}
use Rattle.mf_objects.specs.Titles.{entry_names, in_byte_order, names_at}
use Rattle.mf_objects.proofs.ByteOrder.{byte_order_permutation, first_are_first}
use Rattle.mf_objects.proofs.Laws.{directory_vnode, live_directory, vnode_count}
use Rattle.mf_calls.specs.Names.{is_component}
use Rattle.mf_calls.specs.WellFormed.{IsText}
use Rattle.mf_hist.specs.Lines.{AreNames, IsFile, IsHead}
use Rattle.mf_reading.proofs.Bounded.{AreBounded, IsBounded, IsBoundedCred}
use Rattle.mf_reading.proofs.Lists.{all_found, all_taken}

-- Nothing

pub no_file_fits : IsFile no_file
no_file_fits = record { uid = omega arith; gid = omega arith; mode = omega arith }

pub no_cred_fits : IsBoundedCred no_cred
no_cred_fits = record { uid = omega arith; seen = no_file_fits }

-- Bytes

pub no_text : (most : ℕ) → IsText most []
no_text most = record { few = omega arith; each = λ k d within. absurd (omega (arith, within)) }

pub head_fits : (most : ℕ) (bytes : List ℕ) → most < 2 ^ 32 → IsText most bytes → IsHead (head_of bytes)
unfolding head_of
head_fits most bytes small is = record {
  len = omega (arith, small, is.few);
  first = length-take HEAD_BYTES bytes ∙ min_comm HEAD_BYTES (length bytes);
  bytes = all_taken (λ byte. byte < 2 ^ 8) HEAD_BYTES bytes (recursion_from_All (λ byte. byte < 2 ^ 8) bytes is.each);
}

-- What an entity holds, where it is live

module _ (o : Entities) (id : Id) (bounded : AreBounded o) where
  bounded_at : (e : LiveEntity) → live_at o id ≡ Some e → IsBounded e
  bounded_at e found = (all_found IsBounded (has_id id) o.live e bounded.each found).0

  pub content_fits : IsText CONTENT_LIMIT (content_at o id)
  content_fits = one (live_at o id) refl
    where
      one : (found : Option LiveEntity) → live_at o id ≡ found → IsText CONTENT_LIMIT (content_at o id)
      one None is = rw is (no_text CONTENT_LIMIT)
      one (Some e) is = rw is (bounded_at e is).held.content

  pub file_fits : IsFile (file_at o id)
  file_fits = one (live_at o id) refl
    where
      one : (found : Option LiveEntity) → live_at o id ≡ found → IsFile (file_at o id)
      one None is = rw is no_file_fits
      one (Some e) is = rw is (bounded_at e is).held.file

  pub cred_fits : IsBoundedCred (cred_at o id)
  cred_fits = one (live_at o id) refl
    where
      one : (found : Option LiveEntity) → live_at o id ≡ found → IsBoundedCred (cred_at o id)
      one None is = rw is no_cred_fits
      one (Some e) is = rw is (bounded_at e is).held.cred

  first_fits : (messages : List (List ℕ)) → AllByRecursion (IsText SCRIPT_LIMIT) messages → IsText SCRIPT_LIMIT (slice_index_or messages 0 [])
  first_fits [] all = no_text SCRIPT_LIMIT
  first_fits (message ∷ messages) all = all.0

  pub message_fits : IsText SCRIPT_LIMIT (slice_index_or (messages_at o id) 0 [])
  message_fits = one (live_at o id) refl
    where
      one : (found : Option LiveEntity) → live_at o id ≡ found → IsText SCRIPT_LIMIT (slice_index_or (messages_at o id) 0 [])
      one None is = rw is (no_text SCRIPT_LIMIT)
      one (Some e) is = rw is (first_fits (messages_of e.what) (bounded_at e is).held.messages)

-- The names of a directory

entries_named : (dir : Id) (live : List LiveEntity) → AllByRecursion IsBounded live → AllByRecursion (λ name. is_component name ≡ true) (entry_names dir live)
entries_named dir [] all = tt
entries_named dir (e ∷ live) all = one (is_entry dir e.what) refl (entries_named dir live all.1)
  where
    one : (b : Bool) → is_entry dir e.what ≡ b → AllByRecursion (λ name. is_component name ≡ true) (entry_names dir live)
        → AllByRecursion (λ name. is_component name ≡ true) (map (λ (x : LiveEntity). x.name) (cond b (e ∷ filter (λ (x : LiveEntity). is_entry dir x.what) live) (filter (λ (x : LiveEntity). is_entry dir x.what) live)))
    one true entry rest = (all.0.named dir entry, rest)
    one false other rest = rest

names_count : (o : Entities) (dir : Id) → length (entry_names dir o.live) ≡ entry_count o dir
names_count o dir =
    length-map (filter (λ (e : LiveEntity). is_entry dir e.what) o.live) (λ (e : LiveEntity). e.name)
    ∙ length-filter (λ (e : LiveEntity). is_entry dir e.what) o.live

pub names_fit : (o : Entities) (dir : Id) → AreBounded o → (file_at o dir).dir ≡ true → AreNames (count_at o dir) (names_at o dir)
unfolding names_at
names_fit o dir bounded directory =
    let names : List (List ℕ) = entry_names dir o.live in
    let count : count_at o dir ≡ entry_count o dir = vnode_count o dir (directory_vnode o dir (live_directory o dir directory)) in
    let sorted : AllByRecursion (λ name. is_component name ≡ true) (in_byte_order names) =
    recursion_from_All (λ name. is_component name ≡ true) (in_byte_order names)
    (All-permutation (λ name. is_component name ≡ true) names (in_byte_order names) (byte_order_permutation names)
    (All-from_recursion (λ name. is_component name ≡ true) names (entries_named dir o.live bounded.each))) in
    record {
      fits = omega (arith, count, count_by-le-length (λ (e : LiveEntity). is_entry dir e.what) o.live, bounded.few);
      first = (first_are_first names).most ∙ min_comm MOST_NAMES (length names) ∙ ap (λ (n : ℕ). min n MOST_NAMES) (names_count o dir ∙ sym count);
      each = all_taken (λ name. is_component name ≡ true) MOST_NAMES (in_byte_order names) sorted;
    }
