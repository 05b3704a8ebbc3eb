-- The words of file lines, task lines and steps that the grammar reads are well formed.
use Rattle.std.proofs.Common.{◌≡◌, ℕ, ◌≤◌, Bool, true, false, List, [], ◌∷◌, refl, lit≤}
use Rattle.std.proofs.lemmas.List.Elements.{All-nil}
use Rattle.mf_cred.specs.declared.cred.FileView.{FileView}
use Rattle.mf_words.specs.Words.{Words}
use Rattle.mf_names.specs.declared.limits.TheConstants.{SCRIPT_LIMIT}
use Rattle.mf_calls.specs.declared.limits.TheConstants.{UID_MAX, MODE_LIMIT}
use Rattle.mf_calls.specs.WellFormed.{IsPath, IsText, IsName, IsFormedCred}
use Rattle.mf_script.specs.declared.lines.FileWords.{FileWords}
use Rattle.mf_script.specs.declared.lines.TaskWords.{TaskWords}
use Rattle.mf_script.specs.Lines.{file_view, file_words, file_content, cred_words, task_words, step_words}
use Rattle.mf_script.proofs.ScriptWords.{AreWords, by_word, any_word, by_field}
use Rattle.mf_script.proofs.FormedParts.{name_formed, number_formed, mode_formed, path_formed, groups_formed, word_formed, bytes_formed}
use Rattle.mf_script.proofs.Yields.{Yields, done, refused, chain, skip, widened}

-- what a directory or a regular file holds
IsHeld : Bool → List ℕ → Type 0
IsHeld dir text = IsText SCRIPT_LIMIT text × (dir ≡ true → text ≡ [])

text_formed : (dir : Bool) (ws : Words) → AreWords ws → Yields (λ text. IsHeld dir text.0) (file_content dir ws)
unfolding file_content IsHeld
text_formed dir [] are = done (record { few = lit≤ tt; each = All-nil _ }, λ e. refl)
text_formed true (w ∷ ws) are = refused
text_formed false (w ∷ ws) are = widened (by_field _ _ bytes_formed (w ∷ ws) are) (λ text ok. (ok.0, λ e. cc))

pub record IsFileWords (f : FileWords) : Type 0 where
  pub path : IsPath f.path
  pub uid : f.file.uid ≤ UID_MAX
  pub gid : f.file.gid ≤ UID_MAX
  pub mode : f.file.mode ≤ MODE_LIMIT
  pub text : IsText SCRIPT_LIMIT f.text
  pub directory : f.file.dir ≡ true → f.text ≡ []

record IsFormedView (f : FileView) : Type 0 where
  pub uid : f.uid ≤ UID_MAX
  pub gid : f.gid ≤ UID_MAX
  pub mode : f.mode ≤ MODE_LIMIT

view_formed : (ws : Words) → AreWords ws → Yields (λ f. IsFormedView f.0 × AreWords f.1) (file_view ws)
unfolding file_view
view_formed ws are =
    chain _ _ (any_word _ ws are) (λ dir dir_ok.
    chain _ _ (by_field _ _ (λ w word. number_formed w) dir.1 dir_ok) (λ uid uid_ok.
    chain _ _ (by_field _ _ (λ w word. number_formed w) uid.1 uid_ok.1) (λ gid gid_ok.
    chain _ _ (by_field _ _ (λ w word. mode_formed w) gid.1 gid_ok.1) (λ mode mode_ok.
    done (record { uid = uid_ok.0; gid = gid_ok.0; mode = mode_ok.0 }, mode_ok.1)))))

pub file_formed : (ws : Words) → AreWords ws → Yields IsFileWords (file_words ws)
unfolding file_words IsHeld
file_formed ws are =
    chain _ _ (by_word _ (λ w word. path_formed w) ws are) (λ path path_ok.
    chain _ _ (view_formed path.1 path_ok.1) (λ file file_ok.
    chain _ _ (by_field _ _ word_formed file.1 file_ok.1) (λ label label_ok.
    chain _ _ (text_formed file.0.dir label.1 label_ok.1) (λ text text_ok.
    skip _ _ (λ u. done (record {
      path = path_ok.0;
      uid = file_ok.0.uid;
      gid = file_ok.0.gid;
      mode = file_ok.0.mode;
      text = text_ok.0;
      directory = text_ok.1;
    }))))))

pub record IsTaskWords (t : TaskWords) : Type 0 where
  pub name : IsName t.name
  pub cred : IsFormedCred t.cred

cred_formed : (ws : Words) → AreWords ws → Yields (λ c. IsFormedCred c.0 × AreWords c.1) (cred_words ws)
unfolding cred_words
cred_formed ws are =
    chain _ _ (by_field _ _ (λ w word. number_formed w) ws are) (λ uid uid_ok.
    chain _ _ (by_field _ _ (λ w word. groups_formed w) uid.1 uid_ok.1) (λ groups groups_ok.
    done (record { real = refl; saved = refl; fits = uid_ok.0; some = groups_ok.0.some; few = groups_ok.0.few; each = groups_ok.0.each }, groups_ok.1)))

pub task_formed : (ws : Words) → AreWords ws → Yields IsTaskWords (task_words ws)
unfolding task_words
task_formed ws are =
    chain _ _ (by_word _ (λ w word. name_formed w) ws are) (λ name name_ok.
    chain _ _ (cred_formed name.1 name_ok.1) (λ cred cred_ok.
    chain _ _ (by_field _ _ word_formed cred.1 cred_ok.1) (λ label label_ok.
    skip _ _ (λ u. done (record { name = name_ok.0; cred = cred_ok.0 })))))

pub step_formed : (w : List ℕ) (ws : Words) → AreWords ws → Yields (λ step. IsName step.task) (step_words w ws)
unfolding step_words
step_formed w ws are = skip _ _ (λ kind. chain _ _ (by_word _ (λ w word. name_formed w) ws are) (λ task task_ok. skip _ _ (λ u. done task_ok.0)))
