-- The path of a file that a script names.
use Rattle.std.specs.Prelude.{ℕ, List, Option, None, Some, if◌then◌else◌, bytes_eq}
use Rattle.std.specs.Path.{path_join, path_parent}

-- the path from this folder; without a folder, from the caller's
abbrev pub from_folder : Option (List ℕ) → List ℕ → List ℕ
from_folder None name = name
from_folder (Some folder) name = path_join folder name

-- the path of the file with this name: the names of the script and of a history are unchanged, any other is relative to
-- the script's folder
abbrev pub path_from : List ℕ → List ℕ → List ℕ → List ℕ
path_from script history name =
    if bytes_eq name script then name
    else if bytes_eq name history then name
    else from_folder (path_parent script) name
