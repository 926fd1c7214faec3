mod SameFaults
