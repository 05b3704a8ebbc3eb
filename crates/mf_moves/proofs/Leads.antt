-- Movements of the checks of a row, which name entities by their ids alone.
use Rattle.std.proofs.Common.{◌≡◌, inl, ℕ, List, [], ◌∷◌, ◌++◌, map, Option, Some, None, option_map, refl, ap, sym, ◌∙◌}
use Rattle.std.specs.Option.{option_map_or}
use Rattle.mf_elem.specs.declared.label.Request.{Request}
use Rattle.mf_item.specs.declared.operation.CheckOp.{CheckOp}
use Rattle.mf_item.specs.declared.view.ObjectView.{ObjectView}
use Rattle.mf_item.specs.Item.{Item}
use Rattle.mf_policy.specs.declared.operations.Movement.{Movement}
use Rattle.mf_objects.specs.declared.id.Id.{Id}
use Rattle.mf_objects.specs.Live.{Entities}
use Rattle.mf_objects.specs.Lives.{view_at}
use Rattle.mf_plan.specs.declared.outline.Check.{Check}
use Rattle.mf_plan.specs.declared.state.State.{State}
use Rattle.mf_plan.specs.Lowering.{lowering}
use Rattle.mf_plan.specs.Outline.{item_asking}
use Rattle.mf_plan.proofs.LoweredChecks.{IsSameCheck, lowering_read}
use Rattle.mf_flow.specs.Sources.{moves_between}
use Rattle.mf_moves.specs.Moves.{Lead, movement_of, moves_by, moves_of}

-- Leading

pub lead_itself : (moves : List (Id × Id)) (a : Id) → Lead moves a a
lead_itself [] a = refl
lead_itself (move ∷ moves) a = inl (lead_itself moves a)

pub lead_later : (first rest : List (Id × Id)) (a b : Id) → Lead rest a b → Lead (first ++ rest) a b
lead_later [] rest a b lead = lead
lead_later (move ∷ first) rest a b lead = inl (lead_later first rest a b lead)

-- The movements of a row's checks

abbrev pub check_moves : Check → List (Id × Id)
check_moves check = option_map_or (λ object. moves_between check.subject object (movement_of check.op)) check.object []

abbrev pub all_moves : List Check → List (Id × Id)
all_moves [] = []
all_moves (check ∷ checks) = check_moves check ++ all_moves checks

-- past a check, whether it moves something or not
pub lead_past : (check : Check) (rest : List Check) (a b : Id) → Lead (all_moves rest) a b → Lead (all_moves (check ∷ rest)) a b
lead_past check rest a b lead = lead_later (check_moves check) (all_moves rest) a b lead

pub lead_more : (first rest : List Check) (a b : Id) → Lead (all_moves rest) a b → Lead (all_moves (first ++ rest)) a b
lead_more [] rest a b lead = lead
lead_more (check ∷ first) rest a b lead = lead_past check (first ++ rest) a b (lead_more first rest a b lead)

-- They are those of the items as the caller comes to them

abbrev by_parts : CheckOp → ℕ → Option ObjectView → List (Id × Id)
by_parts op subject object =
    option_map_or (λ object. moves_between (record { 0 = subject }) (record { 0 = object.id }) (movement_of op)) object []

same_moves : (item other : Item) → IsSameCheck item other → moves_by item ≡ moves_by other
same_moves item other same =
    ap (λ (op : CheckOp). by_parts op item.subject.id item.object) same.op
    ∙ ap (λ (subject : ℕ). by_parts other.op subject item.object) same.id
    ∙ ap (λ (object : Option ObjectView). by_parts other.op other.subject.id object) same.object

flat : List (List (Id × Id)) → List (Id × Id)
flat [] = []
flat (xs ∷ rest) = xs ++ flat rest

are_flat : (items : List Item) → moves_of items ≡ flat (map moves_by items)
unfolding flat
are_flat [] = refl
are_flat (item ∷ items) = ap (λ (rest : List (Id × Id)). moves_by item ++ rest) (are_flat items)

moves_lowered : (s : State) (me : Id) (items : List Item) → moves_of (lowering s me items) ≡ moves_of items
moves_lowered s me items =
    are_flat (lowering s me items) ∙ ap flat (lowering_read s me moves_by same_moves items) ∙ sym (are_flat items)

moves_asking : (o : Entities) (asked : Option Request) (check : Check) → moves_by (item_asking o asked check) ≡ check_moves check
unfolding item_asking
moves_asking o asked check = one check.subject (movement_of check.op) check.object
  where
    one : (subject : Id) (movement : Movement) (object : Option Id)
        → option_map_or (λ (v : ObjectView). moves_between (record { 0 = subject.0 }) (record { 0 = v.id }) movement) (option_map (view_at o) object) []
        ≡ option_map_or (λ (id : Id). moves_between subject id movement) object []
    one subject movement None = refl
    one subject movement (Some id) = refl

moves_mapped : (o : Entities) (asked : Option Request) (checks : List Check) → moves_of (map (item_asking o asked) checks) ≡ all_moves checks
moves_mapped o asked [] = refl
moves_mapped o asked (check ∷ checks) =
    ap (λ (first : List (Id × Id)). first ++ moves_of (map (item_asking o asked) checks)) (moves_asking o asked check)
    ∙ ap (λ (rest : List (Id × Id)). check_moves check ++ rest) (moves_mapped o asked checks)

pub moves_planned : (s : State) (me : Id) (asked : Option Request) (checks : List Check)
    → moves_of (lowering s me (map (item_asking s.objects asked) checks)) ≡ all_moves checks
moves_planned s me asked checks = moves_lowered s me (map (item_asking s.objects asked) checks) ∙ moves_mapped s.objects asked checks
