-- The calls that take words, as one call with a task: what each task answers once checks 14 and 2
-- are passed.
use Rattle.std.specs.Prelude.{ℕ, true, false, List, [], ◌≡◌}
use Rattle.std.specs.Borrow.{Bor}
use Rattle.clefia_spec.specs.Block.{encrypt_under, decrypt_under}
use Rattle.planbook_spec.specs.Outcome.{Outcome, judged}
use Rattle.planbook_spec.specs.OutcomeLaws.{judged_append}
use Rattle.planbook_spec.specs.Checks.{words_from_bytes, words_and_way, block_checks, encrypt_block_call, decrypt_block_call}
use Rattle.planbook_spec.specs.Book.{book_checks, encrypt_book_by, decrypt_book_by, encrypt_book_call, decrypt_book_call}
use Rattle.planbook_spec.specs.Note.{note_checks, crypt_note_by, crypt_note_call}
use Rattle.call_block.specs.BlockUnder.{crypt_under, block_under}
use Rattle.call_tasks.specs.declared.Task.{Task}
use Rattle.call_tasks.specs.declared.Task.TheVariants.{EncryptBlock, DecryptBlock, EncryptBook, DecryptBook}
use Rattle.call_tasks.specs.declared.Task.TheVariants.{CryptNote}

-- What a task answers under words w.
unfoldable pub under : Task → List ℕ → List ℕ → List ℕ → Outcome
under EncryptBlock w src out = block_under false w src out
under DecryptBlock w src out = block_under true w src out
under EncryptBook w src out = encrypt_book_by [] (encrypt_under w) src out
under DecryptBook w src out = decrypt_book_by [] (decrypt_under w) src out
under (CryptNote counter) w src out = crypt_note_by [] (encrypt_under w) counter.now src out

-- The call with a task, whose words are given as bytes.
unfoldable pub task_call : Task → List ℕ → ℕ → List ℕ → List ℕ → Outcome
task_call task words way src out = judged (words_and_way words way) (under task (words_from_bytes words) src out)

-- Each call is the one with its task.
pub encrypt_block_task : (words : List ℕ) (way : ℕ) (block out : List ℕ)
    → encrypt_block_call words way block out ≡ task_call EncryptBlock words way block out
unfolding encrypt_block_call block_checks task_call under block_under crypt_under
encrypt_block_task words way block out = judged_append (words_and_way words way) _ _

pub decrypt_block_task : (words : List ℕ) (way : ℕ) (block out : List ℕ)
    → decrypt_block_call words way block out ≡ task_call DecryptBlock words way block out
unfolding decrypt_block_call block_checks task_call under block_under crypt_under
decrypt_block_task words way block out = judged_append (words_and_way words way) _ _

pub encrypt_book_task : (words : List ℕ) (way : ℕ) (book out : List ℕ)
    → encrypt_book_call words way book out ≡ task_call EncryptBook words way book out
unfolding encrypt_book_call task_call under encrypt_book_by book_checks
encrypt_book_task words way book out = judged_append (words_and_way words way) _ _

pub decrypt_book_task : (words : List ℕ) (way : ℕ) (book out : List ℕ)
    → decrypt_book_call words way book out ≡ task_call DecryptBook words way book out
unfolding decrypt_book_call task_call under decrypt_book_by book_checks
decrypt_book_task words way book out = judged_append (words_and_way words way) _ _

pub crypt_note_task : (words : List ℕ) (way : ℕ) (counter : Bor (List ℕ)) (note out : List ℕ)
    → crypt_note_call words way counter.now note out ≡ task_call (CryptNote counter) words way note out
unfolding crypt_note_call task_call under crypt_note_by note_checks
crypt_note_task words way counter note out = judged_append (words_and_way words way) _ _
