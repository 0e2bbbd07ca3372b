-- The cells and passes of a site without logs (own).
use Rattle.disk_edge.specs.declared.memory_disk.MemoryDisk.{MemoryDisk}
use Rattle.logged_cells.specs.declared.logged_cell.LoggedCell.{LoggedCell}
use Rattle.running_site.specs.Passes as passes

-- a cell, whose disk would be in memory
abbrev pub SiteCell : Type 0
SiteCell = LoggedCell MemoryDisk

-- a pass of the site's table
abbrev pub TablePass : Type 0
TablePass = passes.TablePass MemoryDisk
