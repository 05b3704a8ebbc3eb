-- What entities hold stays within the bounds as they come, change and go.
use Rattle.std.proofs.Common.{◌≡◌, ℕ, ◌+◌, ◌<◌, ◌≤◌, Bool, true, false, cond, not, ◌&&◌, List, [], ◌∷◌, ◌++◌, length, drop, map, Option, Some, None, option_map, refl, ap, sym, ◌∙◌, subst, arith}
use Rattle.std.specs.Prelude.{filter, find, nat_eq}
use Rattle.std.specs.List.{AllByRecursion}
use Rattle.std.specs.Str.{bytes_eq}
use Rattle.std.proofs.lemmas.List.{length-append, length-map}
use Rattle.std.proofs.lemmas.List.Elements.{All-append}
use Rattle.mf_elem.specs.declared.label.LabelValue.{LabelValue}
use Rattle.mf_item.specs.declared.view.Kind.TheVariants as kinds
use Rattle.mf_names.specs.declared.limits.TheConstants.{CONTENT_LIMIT, SCRIPT_LIMIT}
use Rattle.mf_objects.proofs.Entities.{changed_at}
use Rattle.mf_objects.specs.declared.limits.TheConstants.{MOST_ENTITIES}
use Rattle.mf_objects.specs.declared.id.Id.{Id}
use Rattle.mf_objects.specs.declared.entity.EntityData.{EntityData}
use Rattle.mf_objects.specs.declared.entity.EntityData.TheVariants.{Process, Vnode, Pipe, Socket}
use Rattle.mf_objects.specs.Live.{LiveEntity, Entities, content_of, has_id, id_of, is_one_named, is_entry, is_made_by, is_process, kind_of, live_at}
use Rattle.mf_objects.specs.Changes.{appended, cleared, goes_with, made, with_change, with_entity, with_message, with_messages, with_mode, with_what, without}
use Rattle.mf_objects.specs.declared.descriptors.Fd.{Fd}
use Rattle.mf_objects.specs.Descriptors.{closed_on, with_closed_on, with_fds, without_vnode}
use Rattle.mf_objects.specs.Labels.{with_value}
use Rattle.mf_objects.specs.Population.{IsRising}
use Rattle.mf_objects.proofs.Belonging.{same_id}
use Rattle.mf_objects.proofs.Finding.{rising_filter}
use Rattle.mf_objects.proofs.Rising.{id_is, rising_changed, rising_mapped, rising_push}
use Rattle.mf_calls.specs.declared.limits.TheConstants.{MODE_LIMIT}
use Rattle.mf_calls.specs.Names.{is_component}
use Rattle.mf_calls.specs.WellFormed.{IsText}
use Rattle.mf_perform.proofs.Observing.{find_valued}
use Rattle.mf_perform.proofs.Unlinking.{without_open}
use Rattle.mf_reading.proofs.Bounded.{AreBounded, IsAlone, IsBounded, IsBoundedData, IsNamed, RootIsFirst}
use Rattle.mf_reading.proofs.Contents.{no_text}
use Rattle.mf_reading.proofs.Finding.{all_own, found_with, later, other_id}
use Rattle.mf_lifetimes.proofs.Files.{all_both, all_push}
use Rattle.mf_reading.proofs.Lists.{all_kept, all_mapped, either_way, few_kept}

-- Changes of what one entity holds

-- it is of the kind that it was of, and an entry of the directory that it was an entry of
pub record IsLike (w w' : EntityData) : Type 0 where
  pub entry : (dir : Id) → is_entry dir w' ≡ is_entry dir w
  pub kind : kind_of w' ≡ kind_of w

-- a change keeps the bounds where what is changed meets the condition
pub record Keeps (change : LiveEntity → LiveEntity) (may : EntityData → Type 0) : Type 0 where
  pub id : (e : LiveEntity) → (change e).id ≡ e.id
  pub name : (e : LiveEntity) → (change e).name ≡ e.name
  pub like : (e : LiveEntity) → IsLike e.what (change e).what
  pub held : (e : LiveEntity) → may e.what → IsBoundedData e.what → IsBoundedData (change e).what

-- such a change of what an entity holds
keeping : (change : EntityData → EntityData) (may : EntityData → Type 0) → ((w : EntityData) → IsLike w (change w))
    → ((w : EntityData) → may w → IsBoundedData w → IsBoundedData (change w)) → Keeps (with_what change) may
keeping change may like held = record { id = λ e. refl; name = λ e. refl; like = λ e. like e.what; held = λ e. held e.what }

-- another label keeps them
pub relabelling : (label : LiveEntity → List LabelValue) → Keeps (λ e. record e { label = label e }) (λ w. Unit {0})
relabelling label = record { id = λ e. refl; name = λ e. refl; like = λ e. record { entry = λ dir. refl; kind = refl }; held = λ e any held. held }

-- so many bytes more may be held
abbrev pub HasRoom : List ℕ → EntityData → Type 0
HasRoom text w = length (content_of w) + length text ≤ CONTENT_LIMIT

module _ (text : List ℕ) (is : IsText SCRIPT_LIMIT text) where
  more_text : (bytes : List ℕ) → length bytes + length text ≤ CONTENT_LIMIT → IsText CONTENT_LIMIT bytes → IsText CONTENT_LIMIT (bytes ++ text)
  more_text bytes fits held = record {
    few = omega (arith, length-append bytes text, fits);
    each = All-append (λ byte. byte < 256) bytes text held.each is.each;
  }

  appended_like : (w : EntityData) → IsLike w (appended text w)
  appended_like (Process process) = record { entry = λ dir. refl; kind = refl }
  appended_like (Vnode vnode) = record { entry = λ dir. refl; kind = refl }
  appended_like (Pipe pipe) = record { entry = λ dir. refl; kind = refl }
  appended_like (Socket socket) = record { entry = λ dir. refl; kind = refl }

  appended_data : (w : EntityData) → HasRoom text w → IsBoundedData w → IsBoundedData (appended text w)
  appended_data (Process process) room held = held
  appended_data (Vnode vnode) room held = record { content = more_text vnode.content room held.content; messages = held.messages; file = held.file; cred = held.cred }
  appended_data (Pipe pipe) room held = record { content = more_text pipe.bytes room held.content; messages = held.messages; file = held.file; cred = held.cred }
  appended_data (Socket socket) room held = held

  pub appending : Keeps (with_what (appended text)) (HasRoom text)
  appending = keeping (appended text) (HasRoom text) appended_like appended_data

messages_like : (change : List (List ℕ) → List (List ℕ)) (w : EntityData) → IsLike w (with_messages change w)
messages_like change (Process process) = record { entry = λ dir. refl; kind = refl }
messages_like change (Vnode vnode) = record { entry = λ dir. refl; kind = refl }
messages_like change (Pipe pipe) = record { entry = λ dir. refl; kind = refl }
messages_like change (Socket socket) = record { entry = λ dir. refl; kind = refl }

messages_data : (change : List (List ℕ) → List (List ℕ))
    → ((messages : List (List ℕ)) → AllByRecursion (IsText SCRIPT_LIMIT) messages → AllByRecursion (IsText SCRIPT_LIMIT) (change messages))
    → (w : EntityData) → Unit {0} → IsBoundedData w → IsBoundedData (with_messages change w)
messages_data change kept (Process process) any held = held
messages_data change kept (Vnode vnode) any held = held
messages_data change kept (Pipe pipe) any held = held
messages_data change kept (Socket socket) any held = record { content = held.content; messages = kept socket.messages held.messages; file = held.file; cred = held.cred }

pub sending : (text : List ℕ) → IsText SCRIPT_LIMIT text → Keeps (with_what (with_messages (with_message text))) (λ w. Unit {0})
sending text is =
    keeping (with_messages (with_message text)) (λ w. Unit {0}) (messages_like (with_message text))
    (messages_data (with_message text) (λ messages all. all_push (IsText SCRIPT_LIMIT) messages text all is))

all_dropped : (messages : List (List ℕ)) → AllByRecursion (IsText SCRIPT_LIMIT) messages → AllByRecursion (IsText SCRIPT_LIMIT) (drop 1 messages)
all_dropped [] all = tt
all_dropped (message ∷ messages) all = all.1

pub receiving : Keeps (with_what (with_messages (drop 1))) (λ w. Unit {0})
receiving = keeping (with_messages (drop 1)) (λ w. Unit {0}) (messages_like (drop 1)) (messages_data (drop 1) all_dropped)

cleared_like : (w : EntityData) → IsLike w (cleared w)
cleared_like (Process process) = record { entry = λ dir. refl; kind = refl }
cleared_like (Vnode vnode) = record { entry = λ dir. refl; kind = refl }
cleared_like (Pipe pipe) = record { entry = λ dir. refl; kind = refl }
cleared_like (Socket socket) = record { entry = λ dir. refl; kind = refl }

cleared_data : (w : EntityData) → Unit {0} → IsBoundedData w → IsBoundedData (cleared w)
cleared_data (Process process) any held = held
cleared_data (Vnode vnode) any held = held
cleared_data (Pipe pipe) any held = record { content = no_text CONTENT_LIMIT; messages = held.messages; file = held.file; cred = held.cred }
cleared_data (Socket socket) any held = held

pub clearing : Keeps (with_what cleared) (λ w. Unit {0})
clearing = keeping cleared (λ w. Unit {0}) cleared_like cleared_data

mode_like : (mode : ℕ) (w : EntityData) → IsLike w (with_mode mode w)
mode_like mode (Process process) = record { entry = λ dir. refl; kind = refl }
mode_like mode (Vnode vnode) = record { entry = λ dir. refl; kind = refl }
mode_like mode (Pipe pipe) = record { entry = λ dir. refl; kind = refl }
mode_like mode (Socket socket) = record { entry = λ dir. refl; kind = refl }

mode_data : (mode : ℕ) → mode ≤ MODE_LIMIT → (w : EntityData) → Unit {0} → IsBoundedData w → IsBoundedData (with_mode mode w)
mode_data mode fits (Process process) any held = held
mode_data mode fits (Vnode vnode) any held =
    record {
      content = held.content;
      messages = held.messages;
      file = record { uid = held.file.uid; gid = held.file.gid; mode = omega (arith, fits) };
      cred = held.cred;
    }
mode_data mode fits (Pipe pipe) any held = held
mode_data mode fits (Socket socket) any held = held

pub moding : (mode : ℕ) → mode ≤ MODE_LIMIT → Keeps (with_what (with_mode mode)) (λ w. Unit {0})
moding mode fits = keeping (with_mode mode) (λ w. Unit {0}) (mode_like mode) (mode_data mode fits)

fds_like : (change : List Fd → List Fd) (w : EntityData) → IsLike w (with_fds change w)
fds_like change (Process process) = record { entry = λ dir. refl; kind = refl }
fds_like change (Vnode vnode) = record { entry = λ dir. refl; kind = refl }
fds_like change (Pipe pipe) = record { entry = λ dir. refl; kind = refl }
fds_like change (Socket socket) = record { entry = λ dir. refl; kind = refl }

fds_data : (change : List Fd → List Fd) (w : EntityData) → Unit {0} → IsBoundedData w → IsBoundedData (with_fds change w)
fds_data change (Process process) any held = record { content = held.content; messages = held.messages; file = held.file; cred = held.cred }
fds_data change (Vnode vnode) any held = held
fds_data change (Pipe pipe) any held = held
fds_data change (Socket socket) any held = held

-- other descriptors keep them
pub describing : (change : List Fd → List Fd) → Keeps (with_what (with_fds change)) (λ w. Unit {0})
describing change = keeping (with_fds change) (λ w. Unit {0}) (fds_like change) (fds_data change)

-- One entity is changed

module _ (o : Entities) (bounded : AreBounded o) (change : LiveEntity → LiveEntity) (may : EntityData → Type 0) (keeps : Keeps change may) (id : Id)
    (allowed : (e : LiveEntity) → live_at o id ≡ Some e → may e.what) where
  one_changed : (e : LiveEntity) (b : Bool) → has_id id e ≡ b → IsBounded e → find (has_id e.id) o.live ≡ Some e → IsBounded (cond b (change e) e)
  one_changed e true hit held found =
      let own : e.id ≡ id = same_id e.id id (id_is id e hit) in
      let live : live_at o id ≡ Some e = subst (λ (i : Id). find (has_id i) o.live ≡ Some e) own found in
      record {
        held = keeps.held e (allowed e live) held.held;
        named = λ dir entry. ap is_component (keeps.name e) ∙ held.named dir (sym ((keeps.like e).entry dir) ∙ entry);
      }
  one_changed e false miss held found = held

  root_changed : (live : List LiveEntity) → RootIsFirst live → RootIsFirst (map (changed_at change id) live)
  root_changed [] rooted = absurd rooted
  root_changed (e ∷ live) rooted = one (has_id id e)
    where
      like : IsLike e.what (change e).what
      like = keeps.like e

      one : (b : Bool) → ((cond b (change e) e).id.0 ≡ 0) × IsAlone (cond b (change e) e).what
      one true = (
        ap (λ (i : Id). i.0) (keeps.id e) ∙ rooted.0,
        record { entry = λ dir. like.entry dir ∙ rooted.1.entry dir; kind = like.kind ∙ rooted.1.kind },
      )
      one false = rooted

  pub changed_bounded : AreBounded (with_change change o id)
  changed_bounded = record {
    rising = rising_changed change id 0 o.next o.live keeps.id bounded.rising;
    rooted = root_changed o.live bounded.rooted;
    few = omega (arith, length-map o.live (changed_at change id), bounded.few);
    each = all_mapped (λ (e : LiveEntity). IsBounded e × (find (has_id e.id) o.live ≡ Some e)) IsBounded (changed_at change id) o.live
        (λ e both. one_changed e (has_id id e) refl both.0 both.1)
        (all_both IsBounded (λ (e : LiveEntity). find (has_id e.id) o.live ≡ Some e) o.live bounded.each (all_own o.next o.live bounded.rising));
  }

-- One entity more

root_kept : (live : List LiveEntity) (e : LiveEntity) → RootIsFirst live → RootIsFirst (live ++ e ∷ [])
root_kept [] e rooted = absurd rooted
root_kept (x ∷ live) e rooted = rooted

pub added_bounded : (o : Entities) (name : List ℕ) (label : List LabelValue) (what : EntityData) → length o.live < MOST_ENTITIES → IsBoundedData what → IsNamed name what
    → AreBounded o → AreBounded (with_entity o name label what)
added_bounded o name label what few held named bounded =
    let new : LiveEntity = made o name label what in
    record {
      rising = rising_push 0 o.next o.live new refl bounded.rising;
      rooted = root_kept o.live new bounded.rooted;
      few = omega (arith, length-append o.live (new ∷ []), few);
      each = all_push IsBounded o.live new bounded.each (record { held = held; named = named });
    }

-- Some go

-- the first stays
abbrev pub KeepsFirst : (LiveEntity → Bool) → List LiveEntity → Type 0
KeepsFirst gone [] = Unit {0}
KeepsFirst gone (e ∷ live) = gone e ≡ false

root_stays : (gone : LiveEntity → Bool) (live : List LiveEntity) → RootIsFirst live → KeepsFirst gone live → RootIsFirst (filter (λ e. not (gone e)) live)
root_stays gone [] rooted keeps = absurd rooted
root_stays gone (e ∷ live) rooted keeps = rw keeps rooted

pub removed_bounded : (o : Entities) (gone : LiveEntity → Bool) → KeepsFirst gone o.live → AreBounded o → AreBounded (without gone o)
removed_bounded o gone keeps bounded =
    let stays : LiveEntity → Bool = λ e. not (gone e) in
    record {
      rising = rising_filter stays 0 o.next o.live bounded.rising;
      rooted = root_stays gone o.live bounded.rooted keeps;
      few = omega (arith, few_kept stays o.live, bounded.few);
      each = all_kept IsBounded stays o.live bounded.each;
    }

-- All descriptors on a file are closed, and it goes

module _ (change : LiveEntity → LiveEntity) (keeps : Keeps change (λ w. Unit {0})) where
  root_everywhere : (live : List LiveEntity) → RootIsFirst live → RootIsFirst (map change live)
  root_everywhere [] rooted = absurd rooted
  root_everywhere (e ∷ live) rooted =
      let like : IsLike e.what (change e).what = keeps.like e in (
        ap (λ (i : Id). i.0) (keeps.id e) ∙ rooted.0,
        record { entry = λ dir. like.entry dir ∙ rooted.1.entry dir; kind = like.kind ∙ rooted.1.kind },
      )

  one_of_all : (e : LiveEntity) → IsBounded e → IsBounded (change e)
  one_of_all e bounded = record {
    held = keeps.held e tt bounded.held;
    named = λ dir entry. ap is_component (keeps.name e) ∙ bounded.named dir (sym ((keeps.like e).entry dir) ∙ entry);
  }

  all_changed : (o : Entities) → AreBounded o → AreBounded (record o { live = map change o.live })
  all_changed o bounded = record {
    rising = rising_mapped change 0 o.next o.live keeps.id bounded.rising;
    rooted = root_everywhere o.live bounded.rooted;
    few = omega (arith, length-map o.live change, bounded.few);
    each = all_mapped IsBounded IsBounded change o.live one_of_all bounded.each;
  }

  first_kept : (id : Id) (live : List LiveEntity) → KeepsFirst (has_id id) live → KeepsFirst (has_id id) (map change live)
  first_kept id [] first = tt
  first_kept id (e ∷ live) first = ap (λ (i : Id). nat_eq i.0 id.0) (keeps.id e) ∙ first

pub unlinked_bounded : (o : Entities) (id : Id) → KeepsFirst (has_id id) o.live → AreBounded o → AreBounded (without_vnode id o)
unlinked_bounded o id keeps bounded =
    let closes = describing (closed_on id) in
    removed_bounded (with_closed_on id o) (has_id id) (first_kept (without_open id) closes id o.live keeps) (all_changed (without_open id) closes o bounded)

-- One entity has another value in a label slot

module _ (slot : ℕ) (value : LabelValue) (me : Id) where
  abbrev lowers_it : LiveEntity → LiveEntity
  lowers_it = changed_at (with_value slot value) me

  -- what is so of what it is stays so
  pub held_lowered : (may : EntityData → Type 0) (o : Entities) (id : Id) → ((e : LiveEntity) → live_at o id ≡ Some e → may e.what) → (e : LiveEntity)
      → live_at (with_change (with_value slot value) o me) id ≡ Some e → may e.what
  held_lowered may o id before e live = one (live_at o id) refl (sym (find_valued slot value me id o.live) ∙ live)
    where
      one : (found : Option LiveEntity) → live_at o id ≡ found → option_map lowers_it found ≡ Some e → may e.what
      one None there is = cc
      one (Some x) there is =
          let same : lowers_it x ≡ e = cc in
          let here : may x.what = before x there in
          subst (λ (y : LiveEntity). may y.what) same (either_way (λ (y : LiveEntity). may y.what) (has_id me x) (with_value slot value x) x here here)

  -- the first stays where it stayed, by a test that doesn't look at labels
  pub first_lowered : (gone : LiveEntity → Bool) → ((e : LiveEntity) → gone (with_value slot value e) ≡ gone e) → (live : List LiveEntity) → KeepsFirst gone live
      → KeepsFirst gone (map lowers_it live)
  first_lowered gone same [] keeps = tt
  first_lowered gone same (e ∷ live) keeps = either_way (λ (x : LiveEntity). gone x ≡ false) (has_id me e) (with_value slot value e) e (same e ∙ keeps) keeps

-- a vnode is no process, and no process made it

vnode_process : (w : EntityData) → kind_of w ≡ kinds.Vnode → is_process w ≡ false
vnode_process (Process process) is = cc
vnode_process (Vnode vnode) is = refl
vnode_process (Pipe pipe) is = cc
vnode_process (Socket socket) is = cc

vnode_unmade : (w : EntityData) (maker : Id) → kind_of w ≡ kinds.Vnode → is_made_by maker w ≡ false
vnode_unmade (Process process) maker is = cc
vnode_unmade (Vnode vnode) maker is = refl
vnode_unmade (Pipe pipe) maker is = cc
vnode_unmade (Socket socket) maker is = cc

-- an entry of a directory isn't the root
pub entry_goes : (dir id : Id) (name : List ℕ) (next : ℕ) (live : List LiveEntity) → IsRising 0 next live → RootIsFirst live → id_of (find (is_one_named (is_entry dir) name) live) ≡ Some id
    → KeepsFirst (has_id id) live
entry_goes dir id name next [] rising rooted is = tt
entry_goes dir id name next (x ∷ live) rising rooted is =
    let found = found_with (find (is_one_named (is_entry dir) name) (x ∷ live)) id is in
    let fails : is_one_named (is_entry dir) name x ≡ false = ap (λ (b : Bool). b && bytes_eq x.name name) (rooted.1.entry dir) in
    other_id x id (omega (arith, later (is_one_named (is_entry dir) name) next x live found.e rising fails found.is, ap (λ (i : Id). i.0) found.own))

-- neither is it a process, or made by one
pub process_goes : (caller : Id) (name : List ℕ) (next : ℕ) (live : List LiveEntity) → IsRising 0 next live → RootIsFirst live
    → id_of (find (is_one_named is_process name) live) ≡ Some caller → KeepsFirst (goes_with caller) live
process_goes caller name next [] rising rooted is = tt
process_goes caller name next (x ∷ live) rising rooted is =
    let found = found_with (find (is_one_named is_process name) (x ∷ live)) caller is in
    let fails : is_one_named is_process name x ≡ false = ap (λ (b : Bool). b && bytes_eq x.name name) (vnode_process x.what rooted.1.kind) in
    let other : has_id caller x ≡ false =
    other_id x caller (omega (arith, later (is_one_named is_process name) next x live found.e rising fails found.is, ap (λ (i : Id). i.0) found.own)) in
    let unmade : is_made_by caller x.what ≡ false = vnode_unmade x.what caller rooted.1.kind in
    rw (other, unmade) refl
