-- The names that a script and its report have for calls.
use Rattle.std.specs.Prelude.{ℕ, List, codes}
use Rattle.test_script.specs.declared.commands.Call.{Call}
use Rattle.test_script.specs.declared.commands.Call.TheVariants.{Constants, ExpandKey, EncryptBlock, DecryptBlock, EncryptBook, DecryptBook, CryptNote, Page}

abbrev pub call_name : Call → List ℕ
call_name Constants = codes "constants"
call_name ExpandKey = codes "expand key"
call_name EncryptBlock = codes "encrypt block"
call_name DecryptBlock = codes "decrypt block"
call_name EncryptBook = codes "encrypt book"
call_name DecryptBook = codes "decrypt book"
call_name CryptNote = codes "crypt note"
call_name Page = codes "page"
